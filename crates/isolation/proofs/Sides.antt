-- What a side of tasks obtains, reaches and alters in a sound state, and where it lies.
use Rattle.std.proofs.Common.{◌≡◌, ℕ, ◌+◌, ◌<◌, ◌≤◌, true, false, List, [], ◌∷◌, Some, None, Option, refl, sym, subst, ◌∙◌, arith}
use Rattle.std.proofs.lemmas.Bool.{both_ways}
use Rattle.std.proofs.lemmas.Nat.{or_lt}
use Rattle.rules.specs.declared.entry.Entry.{Entry}
use Rattle.rules.specs.declared.entry.Entry.TheVariants.{Object, Control, Refined}
use Rattle.rules.specs.declared.entry.Storage.{Storage}
use Rattle.rules.specs.declared.descriptor.Descriptor.{Descriptor}
use Rattle.rules.specs.declared.shown.Shown.{Shown}
use Rattle.rules.specs.State.{State, byte_at, entry, level_of, shown, slot_at, stack}
use Rattle.rules.specs.Operators.{has_parts}
use Rattle.soundness.specs.Sound.{AreContexts, In, Inside, Sound, Takes, below, here}
use Rattle.soundness.proofs.Finds.{Holds, Shows, held_by, shows, slot_shown}
use Rattle.isolation.specs.Reach.{Alters, Obtains, Reaches, Side, amplified, beneath, in_context, in_shown, named_entry, written, written_beneath}

-- what is shown lies in an object that the side reaches
pub record Seat (s : State) (A : Side) (v : Shown) : Type 0 where
  pub object : Storage
  pub is_there : entry s v.owner v.object ≡ Some (Object object)
  pub reached : Reaches s A v.owner v.object
  pub base_is : v.base ≡ object.base
  pub bytes_inside : v.byte + v.bytes ≤ object.bytes
  pub slots_inside : v.slot + v.slots ≤ object.slots

-- an entry that shows a slot or a byte has parts
pub has_parts_if : (s : State) (t i : ℕ) → 1 ≤ (shown s t i).slots + (shown s t i).bytes → has_parts (entry s t i) ≡ true
unfolding shown
has_parts_if s t i some = go (entry s t i) refl
  where
    go : (x : Option Entry) → entry s t i ≡ x → has_parts x ≡ true
    go (Some (Object o)) is = refl
    go (Some (Control c)) is = let none : 1 ≤ 0 + 0 = rw is at some in absurd (omega arith)
    go (Some (Refined r)) is = refl
    go None is = refl

-- what a side alters it reaches
pub altered_reached : (s : State) (A : Side) (t i : ℕ) → Alters s A t i → Reaches s A t i
altered_reached s A t i (Alters.open_context q c m h) = Reaches.open_context q c m h
altered_reached s A t i (written d o h right is) = named_entry d h
altered_reached s A t i (written_beneath d r h right is) = beneath d r h is

-- a larger side obtains and alters more
module _ (s : State) (A B : Side) (more : (q : ℕ) → A q → B q) where
  pub obtains_more : (d : Descriptor) → Obtains s A d → Obtains s B d
  obtains_more _ (in_context q c k d m h slot) = in_context q c k d (more q m) h slot
  obtains_more _ (in_shown e k d h right slot) = in_shown e k d (obtains_more e h) right slot
  obtains_more _ (amplified c d k h right is h' same) = amplified c d k (obtains_more c h) right is (obtains_more d h') same

  pub alters_more : (t i : ℕ) → Alters s A t i → Alters s B t i
  alters_more t i (Alters.open_context q c m h) = Alters.open_context q c (more q m) h
  alters_more t i (written d o h right is) = written d o (obtains_more d h) right is
  alters_more t i (written_beneath d r h right is) = written_beneath d r (obtains_more d h) right is

module _ (s : State) (g : Sound s) where
  -- an open context is a storage object
  pub context_there : (q c : ℕ) → In c (stack s q) → (o : Storage) × (entry s q c ≡ Some (Object o))
  context_there q c h = found (stack s q) (g.contexts q) h
    where
      found : (cs : List ℕ) → AreContexts s q cs → In c cs → (o : Storage) × (entry s q c ≡ Some (Object o))
      found [] are x = elim x [ ]
      found (c ∷ cs) are here = (are.0.object, are.0.is_there)
      found (b ∷ cs) are (below i) = found cs are.1 i

  module _ (A : Side) where
    -- a descriptor that a side obtains may be held by one of its tasks
    pub obtained_holds : (d : Descriptor) → Obtains s A d → (q : ℕ) × (A q × Holds s q d)
    obtained_holds _ (in_context q c k d m h slot) =
        let x = context_there q c h in
        let seen : Shows s q (shown s q c) = shows s g q q c (Object x.0) x.1 (λ _. refl) in
        (q, (m, held_by s g q (record { by = shown s q c; at = k }) d (slot_shown s g q (shown s q c) k seen slot.0) slot.1))
    obtained_holds _ (in_shown e k d h right slot) =
        let (q, (m, x)) = obtained_holds e h in
        let seen : Shows s q (shown s e.table e.index) = shows s g q e.table e.index x.of x.is_there x.at_home in
        (q, (m, held_by s g q (record { by = shown s e.table e.index; at = k }) d (slot_shown s g q (shown s e.table e.index) k seen slot.0) slot.1))
    obtained_holds _ (amplified c d k h right is h' same) =
        let (q, (m, x)) = obtained_holds d h' in (
          q,
          (
            m,
            record {
              is_small = record { table = x.is_small.table; index = x.is_small.index; rights = or_lt 6 d.rights k.rights x.is_small.rights (omega (arith, g.controls c.table c.index k is)) };
              of = x.of;
              is_there = x.is_there;
              no_context = x.no_context;
              at_home = x.at_home;
            },
          ),
        )

    -- what a side reaches is there, and stands in the table of one of its tasks if its level is 1
    -- or more
    pub reached_there : (t i : ℕ) → Reaches s A t i → (x : Entry) × ((entry s t i ≡ Some x) × (1 ≤ level_of x → A t))
    reached_there t i (Reaches.open_context q c m h) = let x = context_there q c h in (Object x.0, (x.1, λ _. m))
    reached_there t i (named_entry d h) =
        let (q, (m, x)) = obtained_holds d h in
        (x.of, (x.is_there, λ up. subst A (sym (x.at_home up)) m))
    reached_there t i (beneath d r h is) =
        let (q, (m, x)) = obtained_holds d h in
        let y : Inside s d.table r = g.inside d.table d.index r is in
        let same : x.of ≡ Refined r = let e = x.is_there in cc in
        let high : level_of x.of ≡ r.level = rw same refl in
        (Object y.object, (y.is_there, λ up. subst A (sym (y.at_home up ∙ x.at_home (omega (arith, y.no_higher)))) m))

    -- what an open context and an obtained descriptor show
    pub context_seat : (q c : ℕ) → A q → In c (stack s q) → Seat s A (shown s q c)
    unfolding shown
    context_seat q c m h =
        let x = context_there q c h in
        rw x.1 (record { object = x.0; is_there = x.1; reached = Reaches.open_context q c m h; base_is = refl; bytes_inside = omega arith; slots_inside = omega arith })

    pub obtained_seat : (d : Descriptor) → Obtains s A d → has_parts (entry s d.table d.index) ≡ true → Seat s A (shown s d.table d.index)
    unfolding shown
    obtained_seat d h parts = let x = reached_there d.table d.index (named_entry d h) in go x.0 x.1.0
      where
        go : (x : Entry) → entry s d.table d.index ≡ Some x → Seat s A (shown s d.table d.index)
        go (Object o) is = rw is (record { object = o; is_there = is; reached = named_entry d h; base_is = refl; bytes_inside = omega arith; slots_inside = omega arith })
        go (Control c) is = absurd (both_ways false refl (rw is at parts))
        go (Refined r) is =
            let y : Inside s d.table r = g.inside d.table d.index r is in
            rw (is, y.is_there)
            (record { object = y.object; is_there = y.is_there; reached = beneath d r h is; base_is = refl; bytes_inside = y.bytes_inside; slots_inside = y.slots_inside })

    -- likewise wherever it shows a slot or a byte
    pub shown_seat : (d : Descriptor) → Obtains s A d → 1 ≤ (shown s d.table d.index).slots + (shown s d.table d.index).bytes → Seat s A (shown s d.table d.index)
    shown_seat d h some = obtained_seat d h (has_parts_if s d.table d.index some)

    -- the bytes of a slot that is shown, and a data byte, lie in the object
    pub slot_taken : (v : Shown) (h : Seat s A v) (k j : ℕ) → k < v.slots → j < 4 → Takes h.object (slot_at v k + j)
    slot_taken v h k j less low = (omega (arith, h.base_is, h.slots_inside, g.in_claim v.owner v.object h.object h.is_there), omega (arith, h.base_is, h.slots_inside, g.in_claim v.owner v.object h.object h.is_there))

    pub byte_taken : (v : Shown) (h : Seat s A v) (j : ℕ) → j < v.bytes → Takes h.object (byte_at v j)
    byte_taken v h j less = (omega (arith, h.base_is, h.bytes_inside), omega (arith, h.base_is, h.bytes_inside))
