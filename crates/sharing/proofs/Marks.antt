-- What is marked is what the side reaches and can alter.
use Rattle.std.proofs.Common.{◌≡◌, ℕ, zero, suc, ◌+◌, ◌*◌, ◌/◌, ◌%◌, ◌<◌, ◌≤◌, ◌↔◌, Bool, true, false, not, ◌&&◌, ◌==◌, if◌then◌else◌, List, length, get_or, set, replicate, nat_lt, Some, None, Option, sym, refl, ap, ◌∙◌, subst, inl, inr, arith}
use Rattle.std.proofs.lemmas.Bool.{and_parts, both_ways, cases_eq, cases_lt, lt-ltb, ltb-true}
use Rattle.std.proofs.lemmas.List.{get_or-replicate, get_or-set_other, get_or-set_same, get_or_past, length-replicate, length-set}
use Rattle.std.proofs.lemmas.Option.{none-some, slice_get_within}
use Rattle.std.specs.List.{slice_get}
use Rattle.rules.specs.Code.{weight}
use Rattle.rules.specs.State.{State, entry, has, level, stack, write}
use Rattle.rules.specs.declared.descriptor.Descriptor.{Descriptor}
use Rattle.rules.specs.declared.entry.Entry.{Entry}
use Rattle.rules.specs.declared.entry.Entry.TheVariants.{Object, Control, Refined}
use Rattle.rules.specs.declared.entry.Refinement.{Refinement}
use Rattle.rules.specs.declared.entry.Storage.{Storage}
use Rattle.rules.specs.declared.rights.Right.{Right}
use Rattle.rules.specs.declared.rights.Right.TheVariants.{Read, Write, Type1, Type2, Type3, Delete}
use Rattle.soundness.specs.Sound.{In}
use Rattle.store.specs.Orderly.{InTables}
use Rattle.isolation.specs.Reach.{Alters, Obtains, Reaches, Side, beneath, named_entry, written, written_beneath}
use Rattle.sharing.specs.Reached.{AreRights, IsObtained, IsObtainedWith, IsReach, altered_at, is_place, low, not_obtained, obtained_with, place, reached_at, rights_at}
use Rattle.sharing.proofs.Folds.{get_of_in, in_of_get, of_code, of_side}
use Rattle.sharing.specs.Search.{at, found}
use Rattle.sharing.specs.Marks.{context_marked, contexts_marked, entry_marked, found_marked, marked, named_marked, nothing_marked, tasks_marked}
use Rattle.sharing.specs.Sides.{is_in, side_of}
use Rattle.sharing.specs.declared.gathering.Gathering.{Gathering}
use Rattle.sharing.specs.declared.reach.Reach.{Reach}
use Rattle.sharing.specs.declared.side.Side.{Side as CodedSide}

-- a place is marked
abbrev pub reached_in : Reach → ℕ → Bool
reached_in r n = get_or r.reached n false

abbrev pub altered_in : Reach → ℕ → Bool
altered_in r n = get_or r.altered n false

-- there is a mark for each place
pub record HasPlaces (r : Reach) : Type 0 where
  pub reached : length r.reached ≡ 576
  pub altered : length r.altered ≡ 576

-- what has been marked stays so
pub record Grows (r u : Reach) : Type 0 where
  pub places : HasPlaces u
  pub gathering : u.gathering ≡ r.gathering
  pub reached : (n : ℕ) → reached_in r n ≡ true → reached_in u n ≡ true
  pub altered : (n : ℕ) → altered_in r n ≡ true → altered_in u n ≡ true

grows_none : (r : Reach) → HasPlaces r → Grows r r
grows_none r h = record { places = h; gathering = refl; reached = λ n x. x; altered = λ n x. x }

grows_more : (r u v : Reach) → Grows r u → Grows u v → Grows r v
grows_more r u v a b =
    record {
      places = b.places;
      gathering = b.gathering ∙ a.gathering;
      reached = λ n x. b.reached n (a.reached n x);
      altered = λ n x. b.altered n (a.altered n x);
    }

-- a mark stays where another is set
set_keeps : (l : List Bool) (n m : ℕ) → n < length l → get_or l m false ≡ true → get_or (set l n true) m false ≡ true
set_keeps l n m lt h =
    elim (cases_eq m n) [
      | inl e ↦ rw e (get_or-set_same l n true false lt)
      | inr ne ↦ get_or-set_other l n m true false ne ∙ h
    ]

marked_grows : (n : ℕ) (a : Bool) (r : Reach) → n < 576 → HasPlaces r → Grows r (marked n a r)
marked_grows n true r lt h =
    record {
      places = record { reached = length-set r.reached n true ∙ h.reached; altered = length-set r.altered n true ∙ h.altered };
      gathering = refl;
      reached = λ m x. set_keeps r.reached n m (omega (arith, h.reached)) x;
      altered = λ m x. set_keeps r.altered n m (omega (arith, h.altered)) x;
    }
marked_grows n false r lt h =
    record {
      places = record { reached = length-set r.reached n true ∙ h.reached; altered = h.altered };
      gathering = refl;
      reached = λ m x. set_keeps r.reached n m (omega (arith, h.reached)) x;
      altered = λ m x. x;
    }

marked_reached : (n : ℕ) (a : Bool) (r : Reach) → n < 576 → HasPlaces r → reached_in (marked n a r) n ≡ true
marked_reached n a r lt h = get_or-set_same r.reached n true false (omega (arith, h.reached))

marked_altered : (n : ℕ) (a : Bool) (r : Reach) → n < 576 → HasPlaces r → a ≡ true → altered_in (marked n a r) n ≡ true
marked_altered n true r lt h e = get_or-set_same r.altered n true false (omega (arith, h.altered))
marked_altered n false r lt h e = cc

-- places
place_below : (t i : ℕ) → t < 9 → i < 64 → place t i < 576
place_below t i a b = omega arith

table_of_place : (t i : ℕ) → i < 64 → (64 * t + i) / 64 ≡ t
table_of_place t i lt = omega arith

index_of_place : (t i : ℕ) → i < 64 → (64 * t + i) % 64 ≡ i
index_of_place t i lt = omega arith

place_of : (n : ℕ) → 64 * (n / 64) + n % 64 ≡ n
place_of n = omega arith

is_place_true : (t i : ℕ) → t < 9 → i < 64 → is_place t i ≡ true
is_place_true t i a b = rw (lt-ltb t 9 a, lt-ltb i 64 b)

first_two : (a b c d : Bool) → (a && b && c && d) ≡ true → (a ≡ true) × (b ≡ true)
first_two true true c d h = (refl, refl)
first_two true false c d h = absurd (both_ways false refl h)
first_two false b c d h = absurd (both_ways false refl h)

-- what is marked of an obtained entry
pub record IsMarked (s : State) (n rights : ℕ) (r : Reach) : Type 0 where
  pub itself : reached_in r n ≡ true
  pub altered : (o : Storage) → at s n ≡ Some (Object o) → has write rights ≡ true → altered_in r n ≡ true
  pub beneath : (p : Refinement) → at s n ≡ Some (Refined p) → reached_in r (place p.table p.index) ≡ true
  pub altered_beneath : (p : Refinement) → at s n ≡ Some (Refined p) → has write rights ≡ true → altered_in r (place p.table p.index) ≡ true

is_marked_lasts : (s : State) (n rights : ℕ) (r u : Reach) → Grows r u → IsMarked s n rights r → IsMarked s n rights u
is_marked_lasts s n rights r u g h =
    record {
      itself = g.reached n h.itself;
      altered = λ o e w. g.altered n (h.altered o e w);
      beneath = λ p e. g.reached (place p.table p.index) (h.beneath p e);
      altered_beneath = λ p e w. g.altered (place p.table p.index) (h.altered_beneath p e w);
    }

module _ (s : State) (tabled : InTables s) where
  beneath_below : (n : ℕ) (p : Refinement) → at s n ≡ Some (Refined p) → (p.table < 9) × (p.index < 64)
  beneath_below n p is =
      let fit = (tabled.entries (n / 64) (n % 64) (Refined p) is).2 in
      let there = first_two (nat_lt p.table 9) (nat_lt p.index 64) _ _ fit in
      (ltb-true p.table 9 there.0, ltb-true p.index 64 there.1)

  beneath_place : (n : ℕ) (p : Refinement) → at s n ≡ Some (Refined p) → place p.table p.index < 576
  beneath_place n p is = let there = beneath_below n p is in place_below p.table p.index there.0 there.1

  entry_grows : (n : ℕ) (e : Option Entry) → at s n ≡ e → (rights : ℕ) (r : Reach) → n < 576 → HasPlaces r → Grows r (entry_marked n e rights r)
  entry_grows n (Some (Object o)) is rights r lt h = marked_grows n (has write rights) r lt h
  entry_grows n (Some (Control c)) is rights r lt h = marked_grows n false r lt h
  entry_grows n (Some (Refined p)) is rights r lt h =
      let one = marked_grows n false r lt h in
      grows_more _ _ _ one (marked_grows (place p.table p.index) (has write rights) (marked n false r) (beneath_place n p is) one.places)
  entry_grows n None is rights r lt h = marked_grows n false r lt h

  found_grows : (n : ℕ) (x : Option ℕ) (r : Reach) → n < 576 → HasPlaces r → Grows r (found_marked s n x r)
  found_grows n (Some rights) r lt h = entry_grows n (at s n) refl rights r lt h
  found_grows n None r lt h = grows_none r h

  named_grows : (n : ℕ) (r : Reach) → n ≤ 576 → HasPlaces r → Grows r (named_marked s n r)
  unfolding named_marked
  named_grows zero r le h = grows_none r h
  named_grows (suc n) r le h =
      let so_far = named_grows n r (omega arith) h in
      grows_more _ _ _ so_far (found_grows n _ (named_marked s n r) (omega arith) so_far.places)

  context_grows : (q k : ℕ) (x : Option ℕ) → slice_get (stack s q) k ≡ x → (r : Reach) → HasPlaces r → Grows r (context_marked q x r)
  context_grows q k (Some c) is r h =
      let there = tabled.contexts q k c is in
      marked_grows (place q c) true r (place_below q c there.0 there.1) h
  context_grows q k None is r h = grows_none r h

  contexts_grows : (q n : ℕ) (r : Reach) → HasPlaces r → Grows r (contexts_marked s q n r)
  unfolding contexts_marked
  contexts_grows q zero r h = grows_none r h
  contexts_grows q (suc n) r h =
      let so_far = contexts_grows q n r h in
      grows_more _ _ _ so_far (context_grows q n _ refl (contexts_marked s q n r) so_far.places)

  task_grows : (b : Bool) (q n : ℕ) (r : Reach) → HasPlaces r → Grows r (if b then contexts_marked s q n r else r)
  task_grows true q n r h = contexts_grows q n r h
  task_grows false q n r h = grows_none r h

  tasks_grows : (A : CodedSide) (n : ℕ) (r : Reach) → HasPlaces r → Grows r (tasks_marked s A n r)
  unfolding tasks_marked
  tasks_grows A zero r h = grows_none r h
  tasks_grows A (suc n) r h =
      let so_far = tasks_grows A n r h in
      grows_more _ _ _ so_far (task_grows (is_in A n) n (level s n) (tasks_marked s A n r) so_far.places)

  -- each obtained entry is marked
  entry_is_marked : (n : ℕ) (e : Option Entry) → at s n ≡ e → (rights : ℕ) (r : Reach) → n < 576 → HasPlaces r → IsMarked s n rights (entry_marked n e rights r)
  entry_is_marked n (Some (Object o)) is rights r lt h =
      record {
        itself = marked_reached n (has write rights) r lt h;
        altered = λ o' e w. marked_altered n (has write rights) r lt h w;
        beneath = λ p e. let no : Some (Object o) ≡ Some (Refined p) = sym is ∙ e in cc;
        altered_beneath = λ p e w. let no : Some (Object o) ≡ Some (Refined p) = sym is ∙ e in cc;
      }
  entry_is_marked n (Some (Control c)) is rights r lt h =
      record {
        itself = marked_reached n false r lt h;
        altered = λ o e w. let no : Some (Control c) ≡ Some (Object o) = sym is ∙ e in cc;
        beneath = λ p e. let no : Some (Control c) ≡ Some (Refined p) = sym is ∙ e in cc;
        altered_beneath = λ p e w. let no : Some (Control c) ≡ Some (Refined p) = sym is ∙ e in cc;
      }
  entry_is_marked n (Some (Refined p)) is rights r lt h =
      let one = marked_grows n false r lt h in
      let lower = beneath_place n p is in
      let two = marked_grows (place p.table p.index) (has write rights) (marked n false r) lower one.places in
      record {
        itself = two.reached n (marked_reached n false r lt h);
        altered = λ o e w. let no : Some (Refined p) ≡ Some (Object o) = sym is ∙ e in cc;
        beneath = λ p' e.
            let same : p ≡ p' = (let no : Some (Refined p) ≡ Some (Refined p') = sym is ∙ e in cc) in
            rw (← same) (marked_reached (place p.table p.index) (has write rights) (marked n false r) lower one.places);
        altered_beneath = λ p' e w.
            let same : p ≡ p' = (let no : Some (Refined p) ≡ Some (Refined p') = sym is ∙ e in cc) in
            rw (← same) (marked_altered (place p.table p.index) (has write rights) (marked n false r) lower one.places w);
      }
  entry_is_marked n None is rights r lt h =
      record {
        itself = marked_reached n false r lt h;
        altered = λ o e w. absurd (none-some (Object o) (sym is ∙ e));
        beneath = λ p e. absurd (none-some (Refined p) (sym is ∙ e));
        altered_beneath = λ p e w. absurd (none-some (Refined p) (sym is ∙ e));
      }

  found_is_marked : (n rights : ℕ) (x : Option ℕ) → x ≡ Some rights → (r : Reach) → n < 576 → HasPlaces r → IsMarked s n rights (found_marked s n x r)
  found_is_marked n rights (Some rights') e r lt h =
      let same : rights' ≡ rights = cc in
      rw same (entry_is_marked n (at s n) refl rights r lt h)
  found_is_marked n rights None e r lt h = absurd (none-some rights e)

  named_are_marked : (n m rights : ℕ) (r : Reach) → n ≤ 576 → m < n → HasPlaces r → found r.gathering m ≡ Some rights → IsMarked s m rights (named_marked s n r)
  unfolding named_marked
  named_are_marked zero m rights r le lt h f = absurd (omega arith)
  named_are_marked (suc n) m rights r le lt h f =
      let so_far = named_grows n r (omega arith) h in
      elim (cases_eq m n) [
        | inl e ↦
            rw e (found_is_marked n rights _ (ap (λ g. found g n) so_far.gathering ∙ (rw e at f)) (named_marked s n r) (omega arith) so_far.places)
        | inr ne ↦
            is_marked_lasts s m rights _ _ (found_grows n _ (named_marked s n r) (omega arith) so_far.places)
            (named_are_marked n m rights r (omega arith) (omega arith) h f)
      ]

-- an open context is marked
pub record IsOpened (q c : ℕ) (r : Reach) : Type 0 where
  pub itself : reached_in r (place q c) ≡ true
  pub altered : altered_in r (place q c) ≡ true

is_opened_lasts : (q c : ℕ) (r u : Reach) → Grows r u → IsOpened q c r → IsOpened q c u
is_opened_lasts q c r u g h = record { itself = g.reached (place q c) h.itself; altered = g.altered (place q c) h.altered }

module _ (s : State) (tabled : InTables s) where
  context_is_opened : (q k c : ℕ) (x : Option ℕ) → slice_get (stack s q) k ≡ x → x ≡ Some c → (r : Reach) → HasPlaces r → IsOpened q c (context_marked q x r)
  context_is_opened q k c (Some c') is e r h =
      let same : c' ≡ c = cc in
      let there = tabled.contexts q k c' is in
      let lt = place_below q c' there.0 there.1 in
      rw (← same) (record { itself = marked_reached (place q c') true r lt h; altered = marked_altered (place q c') true r lt h refl })
  context_is_opened q k c None is e r h = absurd (none-some c e)

  contexts_are_opened : (q n k c : ℕ) (r : Reach) → k < n → slice_get (stack s q) k ≡ Some c → HasPlaces r → IsOpened q c (contexts_marked s q n r)
  unfolding contexts_marked
  contexts_are_opened q zero k c r lt is h = absurd (omega arith)
  contexts_are_opened q (suc n) k c r lt is h =
      let so_far = contexts_grows s tabled q n r h in
      elim (cases_eq k n) [
        | inl e ↦ context_is_opened q n c _ refl (rw e at is) (contexts_marked s q n r) so_far.places
        | inr ne ↦
            is_opened_lasts q c _ _ (context_grows s tabled q n _ refl (contexts_marked s q n r) so_far.places)
            (contexts_are_opened q n k c r (omega arith) is h)
      ]

  task_is_opened : (b : Bool) (q n k c : ℕ) (r : Reach) → b ≡ true → k < n → slice_get (stack s q) k ≡ Some c → HasPlaces r → IsOpened q c (if b then contexts_marked s q n r else r)
  task_is_opened true q n k c r e lt is h = contexts_are_opened q n k c r lt is h
  task_is_opened false q n k c r e lt is h = cc

  tasks_are_opened : (A : CodedSide) (n q k c : ℕ) (r : Reach) → q < n → is_in A q ≡ true → slice_get (stack s q) k ≡ Some c → HasPlaces r → IsOpened q c (tasks_marked s A n r)
  unfolding tasks_marked level
  tasks_are_opened A zero q k c r lt is_one is h = absurd (omega arith)
  tasks_are_opened A (suc n) q k c r lt is_one is h =
      let so_far = tasks_grows s tabled A n r h in
      elim (cases_eq q n) [
        | inl e ↦
            rw (← e) (task_is_opened (is_in A q) q (length (stack s q)) k c (tasks_marked s A q r) is_one (slice_get_within (stack s q) k c is) is (tasks_grows s tabled A q r h).places)
        | inr ne ↦
            is_opened_lasts q c _ _ (task_grows s tabled (is_in A n) n (level s n) (tasks_marked s A n r) so_far.places)
            (tasks_are_opened A n q k c r (omega arith) is_one is h)
      ]

-- what is marked is so
pub record IsReal (s : State) (A : Side) (r : Reach) : Type 0 where
  pub reaches : (n : ℕ) → reached_in r n ≡ true → Reaches s A (n / 64) (n % 64)
  pub alters : (n : ℕ) → altered_in r n ≡ true → Alters s A (n / 64) (n % 64)

set_real : (l : List Bool) (P : ℕ → Type 0) (n : ℕ) → P n → ((m : ℕ) → get_or l m false ≡ true → P m) → (m : ℕ) → get_or (set l n true) m false ≡ true → P m
set_real l P n p old m h =
    elim (cases_eq m n) [
      | inl e ↦ subst P (sym e) p
      | inr ne ↦ old m (sym (get_or-set_other l n m true false ne) ∙ h)
    ]

module _ (s : State) (A : Side) where
  reach_named : (t i : ℕ) → IsObtained s A t i → Reaches s A t i
  reach_named t i x = rw (← x.same_table, ← x.same_index) (named_entry x.by x.obtained)

  reach_beneath : (t i : ℕ) (p : Refinement) → IsObtained s A t i → entry s t i ≡ Some (Refined p) → Reaches s A p.table p.index
  reach_beneath t i p x is = beneath x.by p x.obtained (rw (x.same_table, x.same_index) is)

  alter_named : (t i : ℕ) (o : Storage) → IsObtainedWith s A t i write → entry s t i ≡ Some (Object o) → Alters s A t i
  alter_named t i o x is = rw (← x.same_table, ← x.same_index) (written x.by o x.obtained x.has_right (rw (x.same_table, x.same_index) is))

  alter_beneath : (t i : ℕ) (p : Refinement) → IsObtainedWith s A t i write → entry s t i ≡ Some (Refined p) → Alters s A p.table p.index
  alter_beneath t i p x is = written_beneath x.by p x.obtained x.has_right (rw (x.same_table, x.same_index) is)

  marked_real : (n : ℕ) (a : Bool) (r : Reach) → Reaches s A (n / 64) (n % 64) → (a ≡ true → Alters s A (n / 64) (n % 64)) → IsReal s A r → IsReal s A (marked n a r)
  marked_real n true r reach alter h =
      record {
        reaches = set_real r.reached (λ m. Reaches s A (m / 64) (m % 64)) n reach h.reaches;
        alters = set_real r.altered (λ m. Alters s A (m / 64) (m % 64)) n (alter refl) h.alters;
      }
  marked_real n false r reach alter h =
      record {
        reaches = set_real r.reached (λ m. Reaches s A (m / 64) (m % 64)) n reach h.reaches;
        alters = h.alters;
      }

  -- at the place of a table's index
  placed_real : (t i : ℕ) (a : Bool) (r : Reach) → i < 64 → Reaches s A t i → (a ≡ true → Alters s A t i) → IsReal s A r → IsReal s A (marked (place t i) a r)
  placed_real t i a r lt reach alter h =
      marked_real (64 * t + i) a r
      (rw (table_of_place t i lt, index_of_place t i lt) reach)
      (λ e. rw (table_of_place t i lt, index_of_place t i lt) (alter e)) h

-- what the rights say of an entry
rights_obtained : (s : State) (A : Side) (t i : ℕ) (x : Option ℕ) → AreRights s A t i x → (n : ℕ) → x ≡ Some n → IsObtained s A t i
rights_obtained s A t i _ (not_obtained never) n e = absurd (none-some n e)
rights_obtained s A t i _ (obtained_with m o f) n e = o

rights_with : (s : State) (A : Side) (t i : ℕ) (x : Option ℕ) → AreRights s A t i x → (n : ℕ) → x ≡ Some n → (r : Right) → (has (weight r) n ≡ true) ↔ IsObtainedWith s A t i (weight r)
rights_with s A t i _ (not_obtained never) n e r = absurd (none-some n e)
rights_with s A t i _ (obtained_with m o f) n e r = let same : m ≡ n = cc in rw same at (f r)

rights_found : (s : State) (A : Side) (t i : ℕ) (x : Option ℕ) → AreRights s A t i x → IsObtained s A t i → (n : ℕ) × (x ≡ Some n)
rights_found s A t i _ (not_obtained never) o = absurd (never o)
rights_found s A t i _ (obtained_with m o' f) o = (m, refl)

pub not_false : (b : Bool) → (b ≡ true → ⊥) → not b ≡ true
not_false true h = absurd (h refl)
not_false false h = refl

found_there : (b : Bool) (x : Option ℕ) (n : ℕ) → (if b then x else None) ≡ Some n → (b ≡ true) × (x ≡ Some n)
found_there true x n h = (refl, h)
found_there false x n h = absurd (none-some n h)

none_at : (k n : ℕ) → get_or (replicate k false) n false ≡ false
none_at k n =
    elim (cases_lt n k) [
      | inl lt ↦ get_or-replicate k n false false lt
      | inr le ↦ get_or_past (replicate k false) n false (omega (arith, length-replicate k false))
    ]

-- the six rights are among the six lowest bits
has_low : (r : Right) (n : ℕ) → has (weight r) (n % 64) ≡ has (weight r) n
has_low Read n = ap (λ (m : ℕ). m == 1) (omega arith)
has_low Write n = ap (λ (m : ℕ). m == 1) (omega arith)
has_low Type1 n = ap (λ (m : ℕ). m == 1) (omega arith)
has_low Type2 n = ap (λ (m : ℕ). m == 1) (omega arith)
has_low Type3 n = ap (λ (m : ℕ). m == 1) (omega arith)
has_low Delete n = ap (λ (m : ℕ). m == 1) (omega arith)

low_rights : (s : State) (A : Side) (t i : ℕ) (x : Option ℕ) → AreRights s A t i x → AreRights s A t i (low x)
low_rights s A t i _ (not_obtained never) = not_obtained never
low_rights s A t i _ (obtained_with m o f) = obtained_with (m % 64) o (λ r. rw (has_low r m) (f r))

low_if : (b : Bool) (x : Option ℕ) → low (if b then x else None) ≡ (if b then low x else None)
low_if true x = refl
low_if false x = refl

-- what was found is exactly what is obtained
abbrev pub IsExact : State → Side → Gathering → Type 0
IsExact s A g = (t i : ℕ) → AreRights s A t i (if is_place t i then found g (place t i) else None)

module _ (s : State) (B : CodedSide) (tabled : InTables s) (g : Gathering) (exact : IsExact s (side_of B) g) where
  at_place : (n : ℕ) → n < 576 → AreRights s (side_of B) (n / 64) (n % 64) (found g n)
  at_place n lt = rw (is_place_true (n / 64) (n % 64) (omega arith) (omega arith), place_of n) at (exact (n / 64) (n % 64))

  entry_real : (n : ℕ) (e : Option Entry) → at s n ≡ e → (rights : ℕ) (r : Reach) → IsObtained s (side_of B) (n / 64) (n % 64) → (has write rights ≡ true → IsObtainedWith s (side_of B) (n / 64) (n % 64) write) → IsReal s (side_of B) r → IsReal s (side_of B) (entry_marked n e rights r)
  entry_real n (Some (Object o)) is rights r x w h = marked_real s (side_of B) n (has write rights) r (reach_named s (side_of B) _ _ x) (λ e. alter_named s (side_of B) _ _ o (w e) is) h
  entry_real n (Some (Control c)) is rights r x w h = marked_real s (side_of B) n false r (reach_named s (side_of B) _ _ x) (λ e. absurd (both_ways false refl e)) h
  entry_real n (Some (Refined p)) is rights r x w h =
      placed_real s (side_of B) p.table p.index (has write rights) (marked n false r) (beneath_below s tabled n p is).1
      (reach_beneath s (side_of B) _ _ p x is) (λ e. alter_beneath s (side_of B) _ _ p (w e) is)
      (marked_real s (side_of B) n false r (reach_named s (side_of B) _ _ x) (λ e. absurd (both_ways false refl e)) h)
  entry_real n None is rights r x w h = marked_real s (side_of B) n false r (reach_named s (side_of B) _ _ x) (λ e. absurd (both_ways false refl e)) h

  found_real : (n : ℕ) (x : Option ℕ) → AreRights s (side_of B) (n / 64) (n % 64) x → (r : Reach) → IsReal s (side_of B) r → IsReal s (side_of B) (found_marked s n x r)
  found_real n (Some rights) a r h =
      entry_real n (at s n) refl rights r (rights_obtained s (side_of B) _ _ _ a rights refl) (rights_with s (side_of B) _ _ _ a rights refl Write).0 h
  found_real n None a r h = h

  named_real : (n : ℕ) (r : Reach) → n ≤ 576 → HasPlaces r → r.gathering ≡ g → IsReal s (side_of B) r → IsReal s (side_of B) (named_marked s n r)
  unfolding named_marked
  named_real zero r le p is h = h
  named_real (suc n) r le p is h =
      found_real n _
      (subst (λ (x : Gathering). AreRights s (side_of B) (n / 64) (n % 64) (found x n)) (sym ((named_grows s tabled n r (omega arith) p).gathering ∙ is)) (at_place n (omega arith)))
      (named_marked s n r) (named_real n r (omega arith) p is h)

  context_real : (q k : ℕ) (x : Option ℕ) → slice_get (stack s q) k ≡ x → side_of B q → (r : Reach) → IsReal s (side_of B) r → IsReal s (side_of B) (context_marked q x r)
  context_real q k (Some c) is m r h =
      let there = in_of_get (stack s q) k c is in
      placed_real s (side_of B) q c true r (tabled.contexts q k c is).1 (Reaches.open_context q c m there) (λ e. Alters.open_context q c m there) h
  context_real q k None is m r h = h

  contexts_real : (q n : ℕ) (r : Reach) → side_of B q → IsReal s (side_of B) r → IsReal s (side_of B) (contexts_marked s q n r)
  unfolding contexts_marked
  contexts_real q zero r m h = h
  contexts_real q (suc n) r m h = context_real q n _ refl m (contexts_marked s q n r) (contexts_real q n r m h)

  task_real : (b : Bool) (q n : ℕ) (r : Reach) → (b ≡ true → side_of B q) → IsReal s (side_of B) r → IsReal s (side_of B) (if b then contexts_marked s q n r else r)
  task_real true q n r m h = contexts_real q n r (m refl) h
  task_real false q n r m h = h

  tasks_real : (n : ℕ) (r : Reach) → IsReal s (side_of B) r → IsReal s (side_of B) (tasks_marked s B n r)
  unfolding tasks_marked
  tasks_real zero r h = h
  tasks_real (suc n) r h = task_real (is_in B n) n (level s n) (tasks_marked s B n r) (of_side B n) (tasks_real n r h)

  nothing_real : IsReal s (side_of B) (nothing_marked g)
  nothing_real =
      record {
        reaches = λ n h. absurd (both_ways _ (none_at 576 n) h);
        alters = λ n h. absurd (both_ways _ (none_at 576 n) h);
      }

  nothing_places : HasPlaces (nothing_marked g)
  nothing_places = record { reached = length-replicate 576 false; altered = length-replicate 576 false }

  named : Reach
  named = named_marked s 576 (nothing_marked g)

  all : Reach
  all = tasks_marked s B 9 named

  named_all : Grows named all
  unfolding named all
  named_all = tasks_grows s tabled B 9 _ (named_grows s tabled 576 (nothing_marked g) (omega arith) nothing_places).places

  all_real : IsReal s (side_of B) all
  unfolding named all
  all_real = tasks_real 9 _ (named_real 576 (nothing_marked g) (omega arith) nothing_places refl nothing_real)

  all_gathering : all.gathering ≡ g
  unfolding named
  all_gathering = named_all.gathering ∙ (named_grows s tabled 576 (nothing_marked g) (omega arith) nothing_places).gathering

  obtained_by : (d : Descriptor) → Obtains s (side_of B) d → IsObtained s (side_of B) d.table d.index
  obtained_by d o = record { by = d; obtained = o; same_table = refl; same_index = refl }

  -- an obtained entry, its place and its marks
  record Seen (t i : ℕ) : Type 0 where
    table_below : t < 9
    index_below : i < 64
    rights : ℕ
    is_found : (if is_place t i then found g (place t i) else None) ≡ Some rights
    marks : IsMarked s (place t i) rights all

  seen : (t i : ℕ) → IsObtained s (side_of B) t i → Seen t i
  unfolding named
  seen t i x =
      let f = rights_found s (side_of B) t i _ (exact t i) x in
      let parts = found_there (is_place t i) (found g (place t i)) f.0 f.1 in
      let there = and_parts (nat_lt t 9) (nat_lt i 64) parts.0 in
      let a : t < 9 = ltb-true t 9 there.0 in
      let b : i < 64 = ltb-true i 64 there.1 in
      record {
        table_below = a;
        index_below = b;
        rights = f.0;
        is_found = f.1;
        marks = is_marked_lasts s (place t i) f.0 named all named_all
            (named_are_marked s tabled 576 (place t i) f.0 (nothing_marked g) (omega arith) (place_below t i a b) nothing_places parts.1);
      }

  written_by : (d : Descriptor) → Obtains s (side_of B) d → has write d.rights ≡ true → (x : Seen d.table d.index) → has write x.rights ≡ true
  written_by d o w x =
      (rights_with s (side_of B) d.table d.index _ (exact d.table d.index) x.rights x.is_found Write).1
      (record { by = d; obtained = o; same_table = refl; same_index = refl; has_right = w })

  opened : (q c : ℕ) → side_of B q → In c (stack s q) → (q < 9) × (c < 64) × IsOpened q c all
  unfolding named all
  opened q c m h =
      let k = get_of_in (stack s q) c h in
      let there = tabled.contexts q k.0 c k.1 in
      (there.0, there.1, tasks_are_opened s tabled B 9 q k.0 c named there.0 (of_code B q m) k.1 (named_grows s tabled 576 (nothing_marked g) (omega arith) nothing_places).places)

  told_reached : (t i : ℕ) → t < 9 → i < 64 → reached_in all (place t i) ≡ true → reached_at all t i ≡ true
  told_reached t i a b h = rw (is_place_true t i a b) h

  told_altered : (t i : ℕ) → t < 9 → i < 64 → altered_in all (place t i) ≡ true → altered_at all t i ≡ true
  told_altered t i a b h = rw (is_place_true t i a b) h

  at_entry : (t i : ℕ) (e : Entry) → i < 64 → entry s t i ≡ Some e → at s (place t i) ≡ Some e
  at_entry t i e lt is = rw (table_of_place t i lt, index_of_place t i lt) is

  reached_from : (t i : ℕ) → Reaches s (side_of B) t i → reached_at all t i ≡ true
  reached_from _ _ (Reaches.open_context q c m h) = let x = opened q c m h in told_reached q c x.0 x.1 x.2.itself
  reached_from _ _ (named_entry d o) =
      let x = seen d.table d.index (obtained_by d o) in
      told_reached d.table d.index x.table_below x.index_below x.marks.itself
  reached_from _ _ (beneath d p o is) =
      let x = seen d.table d.index (obtained_by d o) in
      let here = at_entry d.table d.index (Refined p) x.index_below is in
      let there = beneath_below s tabled (place d.table d.index) p here in
      told_reached p.table p.index there.0 there.1 (x.marks.beneath p here)

  altered_from : (t i : ℕ) → Alters s (side_of B) t i → altered_at all t i ≡ true
  altered_from _ _ (Alters.open_context q c m h) = let x = opened q c m h in told_altered q c x.0 x.1 x.2.altered
  altered_from _ _ (written d o' o w is) =
      let x = seen d.table d.index (obtained_by d o) in
      let here = at_entry d.table d.index (Object o') x.index_below is in
      told_altered d.table d.index x.table_below x.index_below (x.marks.altered o' here (written_by d o w x))
  altered_from _ _ (written_beneath d p o w is) =
      let x = seen d.table d.index (obtained_by d o) in
      let here = at_entry d.table d.index (Refined p) x.index_below is in
      let there = beneath_below s tabled (place d.table d.index) p here in
      told_altered p.table p.index there.0 there.1 (x.marks.altered_beneath p here (written_by d o w x))

  reached_real : (t i : ℕ) → reached_at all t i ≡ true → Reaches s (side_of B) t i
  reached_real t i h =
      let parts = and_parts (is_place t i) (reached_in all (place t i)) h in
      let there = and_parts (nat_lt t 9) (nat_lt i 64) parts.0 in
      let b : i < 64 = ltb-true i 64 there.1 in
      rw (table_of_place t i b, index_of_place t i b) at (all_real.reaches (place t i) parts.1)

  altered_real : (t i : ℕ) → altered_at all t i ≡ true → Alters s (side_of B) t i
  altered_real t i h =
      let parts = and_parts (is_place t i) (altered_in all (place t i)) h in
      let there = and_parts (nat_lt t 9) (nat_lt i 64) parts.0 in
      let b : i < 64 = ltb-true i 64 there.1 in
      rw (table_of_place t i b, index_of_place t i b) at (all_real.alters (place t i) parts.1)

  rights_told : (t i : ℕ) → AreRights s (side_of B) t i (rights_at all t i)
  rights_told t i = subst (λ (x : Gathering). AreRights s (side_of B) t i (if is_place t i then low (found x (place t i)) else None)) (sym all_gathering) (subst (AreRights s (side_of B) t i) (low_if (is_place t i) (found g (place t i))) (low_rights s (side_of B) t i _ (exact t i)))

  all_exact : IsReach s (side_of B) all
  all_exact =
      record {
        rights = rights_told;
        reaches = λ t i. (reached_real t i, reached_from t i);
        alters = λ t i. (altered_real t i, altered_from t i);
      }

  -- so all that was marked is so
  pub marks_exact : (r : Reach) → r ≡ tasks_marked s B 9 (named_marked s 576 (nothing_marked g)) → IsReach s (side_of B) r
  unfolding named all
  marks_exact r is = subst (IsReach s (side_of B)) (sym is) all_exact
