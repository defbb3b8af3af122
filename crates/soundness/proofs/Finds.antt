-- What the operands of an operator are in a sound store.
use Rattle.std.proofs.Common.{◌≡◌, ◌≢◌, ℕ, ◌+◌, ◌<◌, ◌≤◌, true, false, bit_and, bit_or, length, Some, None, refl, sym, ◌∙◌, arith}
use Rattle.std.proofs.lemmas.Bool.{both_ways}
use Rattle.std.proofs.lemmas.Nat.{and_le_l, or_lt}
use Rattle.bank.specs.Words.{word_at}
use Rattle.rules.specs.declared.entry.Entry.{Entry}
use Rattle.rules.specs.declared.entry.Entry.TheVariants.{Object, Control, Refined}
use Rattle.rules.specs.declared.entry.Storage.{Storage}
use Rattle.rules.specs.declared.entry.TypeControl.{TypeControl}
use Rattle.rules.specs.declared.descriptor.Descriptor.{Descriptor}
use Rattle.rules.specs.declared.shown.Place.{Place}
use Rattle.rules.specs.declared.shown.Shown.{Shown}
use Rattle.rules.specs.State.{State, read, entry, held, kind_of, level_of, named, shown, slot_at, type2}
use Rattle.rules.specs.Operators.{has_parts, with_rights}
use Rattle.soundness.specs.Sound.{Inside, IsContext, IsUserKind, NullOrLive, MayName, Sound, names, null, slot_of}
use Rattle.soundness.proofs.Changes.{SlotIn}
use Rattle.soundness.proofs.Origins.{Calls, ControlBy, Environment, Given, Selected, Source}
use Rattle.rules.proofs.Words.{IsSmall, named_entry, named_small, zero_names_nothing}

-- v shows runs of a storage object, as the entry e does; one of level 1 or more stands in table q
pub record PartOf (s : State) (q : ℕ) (e : Entry) (v : Shown) : Type 0 where
  pub object : Storage
  pub is_there : entry s v.owner v.object ≡ Some (Object object)
  pub base_is : v.base ≡ object.base
  pub level_is : v.level ≡ object.level
  pub bytes_inside : v.byte + v.bytes ≤ object.bytes
  pub slots_inside : v.slot + v.slots ≤ object.slots
  pub at_home : 1 ≤ object.level → v.owner ≡ q
  pub no_context : kind_of e ≢ 1 → object.kind ≢ 1

-- v shows nothing, or such runs
pub data Shows (s : State) (q : ℕ) (v : Shown) : Type 0 where
  shows_nothing : v.slots ≡ 0 → v.bytes ≡ 0 → Shows s q v
  shows_part : (e : Entry) → PartOf s q e v → Shows s q v

-- a descriptor that task q may hold: of an entry that is there and is no context, and one of level
-- 1 or more stands in table q
pub record Holds (s : State) (q : ℕ) (d : Descriptor) : Type 0 where
  pub is_small : IsSmall d
  pub of : Entry
  pub is_there : entry s d.table d.index ≡ Some of
  pub no_context : kind_of of ≢ 1
  pub at_home : 1 ≤ level_of of → d.table ≡ q

-- a slot of a storage object, which stands in table q if its level is 1 or more
pub record Slot (s : State) (q : ℕ) (l : Place) : Type 0 where
  pub slot_in : SlotIn s l
  pub at_home : 1 ≤ l.by.level → l.by.owner ≡ q

-- a descriptor that a task holds, with other rights
holds_with : (s : State) (q rights : ℕ) (d : Descriptor) → rights < 64 → Holds s q d → Holds s q (with_rights rights d)
holds_with s q rights d few h =
    record {
      is_small = record { table = h.is_small.table; index = h.is_small.index; rights = few };
      of = h.of;
      is_there = h.is_there;
      no_context = h.no_context;
      at_home = h.at_home;
    }

module _ (s : State) (g : Sound s) (q : ℕ) where
  -- what an entry shows that has parts
  pub shows_parts : (t i : ℕ) (e : Entry) → entry s t i ≡ Some e → has_parts (Some e) ≡ true → (1 ≤ level_of e → t ≡ q) → PartOf s q e (shown s t i)
  unfolding shown
  shows_parts t i (Object o) is parts home =
      rw is (record { object = o; is_there = is; base_is = refl; level_is = refl; bytes_inside = omega arith; slots_inside = omega arith; at_home = home; no_context = λ n. n })
  shows_parts t i (Control c) is parts home = absurd (both_ways false refl parts)
  shows_parts t i (Refined r) is parts home =
      let h : Inside s t r = g.inside t i r is in
      rw (is, h.is_there)
      (record {
        object = h.object;
        is_there = h.is_there;
        base_is = refl;
        level_is = refl;
        bytes_inside = h.bytes_inside;
        slots_inside = h.slots_inside;
        at_home = λ up. h.at_home up ∙ home (omega (arith, h.no_higher));
        no_context = λ n. h.no_context;
      })

  -- what any entry shows
  pub shows : (t i : ℕ) (e : Entry) → entry s t i ≡ Some e → (1 ≤ level_of e → t ≡ q) → Shows s q (shown s t i)
  unfolding shown
  shows t i (Object o) is home = shows_part (Object o) (shows_parts t i (Object o) is refl home)
  shows t i (Control c) is home = rw is (shows_nothing refl refl)
  shows t i (Refined r) is home = shows_part (Refined r) (shows_parts t i (Refined r) is refl home)

  -- what is named by the word of a slot
  pub held_by : (l : Place) (d : Descriptor) → Slot s q l → named s (held s l) ≡ Some d → Holds s q d
  unfolding held
  held_by l d h n =
      let i : SlotIn s l = h.slot_in in
      let k : ℕ = l.by.slot + l.at in
      let same : slot_at l.by l.at ≡ slot_of i.object k = rw i.base_is refl in
      let n' : named s (word_at s.bytes (slot_of i.object k)) ≡ Some d = rw same at n in
      go i.object.level (word_at s.bytes (slot_of i.object k)) i.level_is (g.slots l.by.owner l.by.object i.object i.is_there k i.within) n'
    where
      go : (n w : ℕ) → l.by.level ≡ n → NullOrLive s l.by.owner n w → named s w ≡ Some d → Holds s q d
      go n w level (null e) m = let wrong : None ≡ Some d = sym (zero_names_nothing s) ∙ (rw e at m) in cc
      go n w level (names f m' may) m =
          let same : f ≡ d = cc in
          let old = named_entry s w d m in
          let may' : MayName s l.by.owner n d = rw same at may in
          let low : level_of old.0 ≤ n = rw old.1 at may'.no_higher in
          record {
            is_small = named_small s w d m;
            of = old.0;
            is_there = old.1;
            no_context = rw old.1 at may'.no_context;
            at_home = λ up. (rw old.1 at may'.at_home) up ∙ h.at_home (omega arith);
          }

  -- a slot of what is shown
  pub slot_shown : (v : Shown) (k : ℕ) → Shows s q v → k < v.slots → Slot s q (record { by = v; at = k })
  slot_shown v k (shows_nothing none none') less = absurd (omega arith)
  slot_shown v k (shows_part e h) less =
      record {
        slot_in = record { object = h.object; is_there = h.is_there; base_is = h.base_is; level_is = h.level_is; within = omega (arith, h.slots_inside) };
        at_home = λ up. h.at_home (omega (arith, h.level_is));
      }

  -- what a context of the task shows, and its first slots
  context_shows : (n c : ℕ) → IsContext s q n c → Shows s q (shown s q c)
  context_shows n c h = shows q c (Object h.object) h.is_there (λ up. refl)

  pub first_slots : (n c k : ℕ) → IsContext s q n c → k < 4 → Slot s q (record { by = shown s q c; at = k })
  unfolding shown
  first_slots n c k h low = slot_shown (shown s q c) k (context_shows n c h) (rw h.is_there (omega (arith, h.has_slots)))

  pub is_current : (c : ℕ) (o : Calls s q c) → IsContext s q (length o.outer + 1) c
  is_current c o = (rw o.on_top at (g.contexts q)).0

  -- what the environment of a selector shows
  environment_shows : (right : ℕ) (v : Shown) → Environment s q right v → Shows s q v
  environment_shows right v (Environment.the_context c o) = context_shows _ c (is_current c o)
  environment_shows right v (Environment.by_slot c k d o low n may) =
      let h : Holds s q d = held_by (record { by = shown s q c; at = k }) d (first_slots _ c k (is_current c o) low) n in
      shows d.table d.index h.of h.is_there h.at_home

  pub selected_slot : (right : ℕ) (l : Place) → Selected s q right l → Slot s q l
  selected_slot right l h = slot_shown l.by l.at (environment_shows right l.by h.environment) h.within

  pub source_holds : (d : Descriptor) → Source s q d → Holds s q d
  source_holds d h = held_by h.place d (selected_slot read h.place h.selected) h.is_named

  pub control_is : (right : ℕ) (k : TypeControl) → ControlBy s q right k → IsUserKind k.kind × (k.rights ≤ 63)
  control_is right k h = g.controls h.by.table h.by.index k h.is_control

  pub given_holds : (d : Descriptor) → Given s q d → Holds s q d
  given_holds d (Given.as_it_is d' from) = source_holds d from
  given_holds d (Given.with_fewer e mask from) =
      let h : Holds s q e = source_holds e from in
      holds_with s q (bit_and e.rights mask) e (omega (arith, and_le_l e.rights mask, h.is_small.rights)) h
  given_holds d (Given.with_more e k from by same) =
      let h : Holds s q e = source_holds e from in
      holds_with s q (bit_or e.rights k.rights) e (or_lt 6 e.rights k.rights h.is_small.rights (omega (arith, (control_is type2 k by).1))) h
