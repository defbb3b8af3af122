-- The effect of every operator fits the sound store that it is made in.
use Rattle.std.proofs.Common.{◌≡◌, ◌≢◌, ℕ, ◌+◌, ◌≤◌, true, List, ◌∷◌, length, Some, refl, sym, subst, ap, inl, inr, arith}
use Rattle.std.proofs.lemmas.Bool.{both_ways, cases_lt}
use Rattle.rules.specs.declared.entry.Entry.{Entry}
use Rattle.rules.specs.declared.entry.Entry.TheVariants.{Object}
use Rattle.rules.specs.declared.entry.Storage.{Storage}
use Rattle.rules.specs.declared.descriptor.Descriptor.{Descriptor}
use Rattle.rules.specs.declared.shown.Place.{Place}
use Rattle.rules.specs.declared.shown.Shown.{Shown}
use Rattle.rules.specs.State.{State, entry, kind_of, level, level_of, shown, stack, table, takes, type1, write}
use Rattle.rules.specs.Tests.{has_room}
use Rattle.rules.specs.Effects.{Effect, add, new_object}
use Rattle.rules.specs.Operators.{first_of, has_parts, refined}
use Rattle.soundness.specs.Sound.{IsContext, Sound, null}
use Rattle.soundness.proofs.Changes.{AddsPlain, Ready}
use Rattle.soundness.proofs.Entries.{known_task}
use Rattle.soundness.proofs.Finds.{Holds, PartOf, control_is, first_slots, given_holds, selected_slot, shows, shows_parts, source_holds}
use Rattle.soundness.proofs.Fits.{Closes, Fits, IsMadeKind, MayNameNew, MayPut, adds_plain, enters, in_shown, made_kind, may_put}
use Rattle.soundness.proofs.Origins.{Calls, Comes, Destination, Makes, Source, Word}

module _ (s : State) (g : Sound s) (q : ℕ) where
  -- a word that the task may store, in a slot of its own table if the level is 1 or more
  word_fits : (t n w : ℕ) → Word s q n w → (1 ≤ n → q ≡ t) → MayPut s t n w
  word_fits t n w Word.nothing_named home = record { is_word = omega arith; kept = null refl }
  word_fits t n w (Word.word_of d from low) home = may_put s q t n d (given_holds s g q d from) low home

  -- the type of an object that it makes
  made : (kind : ℕ) → Makes s q kind → IsMadeKind kind
  made kind Makes.generic = inl refl
  made kind (Makes.of_type k by) = inr (control_is s g q type1 k by).0

  -- an object that a task may show part of has no level above the task's own
  below_own : (t i : ℕ) (p : Storage) → entry s t i ≡ Some (Object p) → (1 ≤ p.level → t ≡ q) → p.level ≤ level s q
  below_own t i p is home =
      elim (cases_lt p.level 1) [
        | inl none ↦ omega arith
        | inr some ↦ subst (λ (u : ℕ). p.level ≤ level s u) (home some) (g.no_higher t i (Object p) is)
      ]

  -- part of what a source shows may be added
  part_ready : (byte bytes slot slots : ℕ) (d : Descriptor) → Source s q d → has_parts (entry s d.table d.index) ≡ true → byte + bytes ≤ (shown s d.table d.index).bytes → slot + slots ≤ (shown s d.table d.index).slots →
      Ready s q (refined (shown s d.table d.index) byte bytes slot slots (level s q))
  part_ready byte bytes slot slots d from parts bytes_in slots_in =
      let h : Holds s q d = source_holds s g q d from in
      let v : Shown = shown s d.table d.index in
      let p : PartOf s q h.of v = shows_parts s g q d.table d.index h.of h.is_there (rw h.is_there at parts) h.at_home in
      record {
        object = p.object;
        is_there = p.is_there;
        no_context = p.no_context h.no_context;
        bytes_inside = omega (arith, p.bytes_inside);
        slots_inside = omega (arith, p.slots_inside);
        no_higher = below_own v.owner v.object p.object p.is_there p.at_home;
        at_home = p.at_home;
      }

  -- a storage object or a refinement of the task's own level, for which its table has room, and the
  -- slot that is to name it
  own_fits : (c : ℕ) (e : Entry) (l : Place) (rights : ℕ) → Calls s q c → Destination s q l → level_of e ≡ level s q → kind_of e ≢ 1 → has_room (table s q) (takes e) ≡ true → Ready s q e → level s q ≤ l.by.level → rights ≤ 63 →
      AddsPlain s (add q e s) q e × MayNameNew s q e l rights
  own_fits c e l rights o to same other room ready low few =
      let slot = selected_slot s g q write l to in (
        adds_plain s g q e o.large (known_task s g q c o.outer o.on_top) other (omega arith) (λ _. omega arith) (λ open_yet. absurd (both_ways s.sealed open_yet o.sealed)) room ready,
        record { slot_in = slot.slot_in; no_higher = omega arith; at_home = λ up. sym (slot.at_home (omega arith)); few_rights = few },
      )

  is_task : (c : ℕ) → Calls s q c → q ≢ 0
  unfolding level
  is_task c o zero =
      let none : length (stack s q) ≡ 0 = rw zero g.nobody in
      let some : length (stack s q) ≡ length (c ∷ o.outer) = ap length o.on_top in
      absurd (omega arith)

  -- the context from which the current one was called
  closes : (c b w : ℕ) (outer : List ℕ) → stack s q ≡ c ∷ b ∷ outer → Word s q (shown s q b).level w → Closes s q c (first_of (shown s q b)) w
  unfolding shown
  closes c b w outer e from =
      let z : IsContext s q (length outer + 1) b = (rw e at (g.contexts q)).1.0 in
      record {
        calling = b;
        outer = outer;
        opened = e;
        known = known_task s g q c (b ∷ outer) e;
        slot_in = (first_slots s g q _ b 0 z (omega arith)).slot_in;
        may_put = rw z.is_there (word_fits q z.object.level w (rw z.is_there at from) (λ up. refl));
      }

  pub comes_fits : (x : Effect) → Comes s q x → Fits s x
  unfolding new_object
  comes_fits x Comes.keeps = tt
  comes_fits x (Comes.puts l w to from) =
      let slot = selected_slot s g q write l to in
      (slot.slot_in, word_fits l.by.owner l.by.level w from (λ up. sym (slot.at_home up)))
  comes_fits x (Comes.writes d offset bs from may inside) =
      let h : Holds s q d = source_holds s g q d from in
      in_shown s g q (shown s d.table d.index) offset (length bs) (shows s g q d.table d.index h.of h.is_there h.at_home) inside
  comes_fits x (Comes.makes c n k kind l o to type low room) =
      let is = made_kind kind (made kind type) in
      own_fits c (new_object s q n k kind (level s q)) l 63 o to refl is.0 room (refl, is.1) low (omega arith)
  comes_fits x (Comes.refines c byte bytes slot slots d l o from parts to bytes_in slots_in low room) =
      let h : Holds s q d = source_holds s g q d from in
      own_fits c (refined (shown s d.table d.index) byte bytes slot slots (level s q)) l d.rights o to refl (λ z. absurd (omega arith)) room (part_ready byte bytes slot slots d from parts bytes_in slots_in) low
      (omega (arith, h.is_small.rights))
  comes_fits x (Comes.enters c k w o may from room) = (
    enters s g q k o.large (known_task s g q c o.outer o.on_top) (is_task c o) may (λ open_yet. absurd (both_ways s.sealed open_yet o.sealed)) room,
    word_fits q (level s q + 1) w from (λ up. refl),
  )
  comes_fits x (Comes.leaves c b w outer o e from) = closes c b w outer e from
