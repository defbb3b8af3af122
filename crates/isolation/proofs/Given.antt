-- The operands of a task are what it obtains and what it alters.
use Rattle.std.proofs.Common.{◌≡◌, ◌⊎◌, ℕ, ◌<◌, true, Some, None, Option, refl, inl, arith}
use Rattle.rules.specs.declared.entry.Entry.{Entry}
use Rattle.rules.specs.declared.entry.Entry.TheVariants.{Object, Control, Refined}
use Rattle.rules.specs.declared.descriptor.Descriptor.{Descriptor}
use Rattle.rules.specs.declared.shown.Place.{Place}
use Rattle.rules.specs.declared.shown.Shown.{Shown}
use Rattle.rules.specs.State.{State, entry, has, held, named, read, shown, write}
use Rattle.soundness.specs.Sound.{Sound}
use Rattle.soundness.specs.Sound.In.{here}
use Rattle.soundness.proofs.Finds.{is_current}
use Rattle.soundness.proofs.Origins.{Calls, Destination, Environment, Source, the_context, by_slot}
use Rattle.isolation.specs.Reach.{Alters, HasSlot, Obtains, only}

module _ (s : State) (g : Sound s) (q : ℕ) where
  -- what the current context names by its first slots is obtained
  by_first : (c k : ℕ) (d : Descriptor) → Calls s q c → k < 4 → named s (held s (record { by = shown s q c; at = k })) ≡ Some d → Obtains s (only q) d
  unfolding shown
  by_first c k d o low n =
      let z = is_current s g q c o in
      Obtains.in_context q c k d refl (rw o.on_top here) (rw z.is_there (omega (arith, z.has_slots)), n)

  pub source_obtained : (d : Descriptor) → Source s q d → Obtains s (only q) d
  source_obtained d h = from h.place.by h.selected.environment (h.selected.within, h.is_named)
    where
      from : (v : Shown) → Environment s q read v → HasSlot s v h.place.at d → Obtains s (only q) d
      from v (the_context c o) slot = Obtains.in_context q c h.place.at d refl (rw o.on_top here) slot
      from v (by_slot c k e o low n r) slot = Obtains.in_shown e h.place.at d (by_first c k e o low n) r slot

  -- the object that an obtained descriptor with the write right shows, if it shows one, is altered
  pub shown_alters : (d : Descriptor) (n : ℕ) → Obtains s (only q) d → has write d.rights ≡ true → (n < (shown s d.table d.index).slots) ⊎ (n < (shown s d.table d.index).bytes) → Alters s (only q) (shown s d.table d.index).owner (shown s d.table d.index).object
  unfolding shown
  shown_alters d n obtained may some = by (entry s d.table d.index) refl
    where
      by : (x : Option Entry) → entry s d.table d.index ≡ x → Alters s (only q) (shown s d.table d.index).owner (shown s d.table d.index).object
      by (Some (Object o)) is = rw is (Alters.written d o obtained may is)
      by (Some (Control k)) is = absurd (omega (arith, rw is at some))
      by (Some (Refined r)) is = rw (is, (g.inside d.table d.index r is).is_there) (Alters.written_beneath d r obtained may is)
      by None is = absurd (omega (arith, rw is at some))

  pub destination_alters : (l : Place) → Destination s q l → Alters s (only q) l.by.owner l.by.object
  unfolding shown
  destination_alters l h = from l.by h.environment h.within
    where
      from : (v : Shown) → Environment s q write v → l.at < v.slots → Alters s (only q) v.owner v.object
      from v (the_context c o) within = let z = is_current s g q c o in rw z.is_there (Alters.open_context q c refl (rw o.on_top here))
      from v (by_slot c k d o low n r) within = shown_alters d l.at (by_first c k d o low n) r (inl within)
