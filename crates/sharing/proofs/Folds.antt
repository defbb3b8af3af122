-- What is taken up of slots, of open contexts and of tasks.
use Rattle.std.specs.Prelude.{◌==◌}
use Rattle.std.proofs.Common.{◌≡◌, ◌⊎◌, ℕ, zero, suc, ◌/◌, ◌%◌, ◌<◌, true, false, List, [], ◌∷◌, Some, None, Option, bit_or, refl, sym, ◌∙◌, inl, inr, arith}
use Rattle.std.specs.List.{slice_get}
use Rattle.std.proofs.lemmas.Bool.{cases_Bool, cases_eq, eq-eqb, eqb-true, eqb-false, ne_eqb, not-true, not_from_false}
use Rattle.std.proofs.lemmas.Option.{same_Some, none-some}
use Rattle.rules.proofs.Words.{named_entry}
use Rattle.rules.specs.State.{State, entry, held, kind_of, level, named, shown, stack}
use Rattle.rules.specs.declared.descriptor.Descriptor.{Descriptor}
use Rattle.rules.specs.declared.entry.Entry.{Entry}
use Rattle.rules.specs.declared.shown.Shown.{Shown}
use Rattle.soundness.specs.Sound.{In, here, below}
use Rattle.isolation.specs.Reach.{Obtains, Side, amplified, in_context, in_shown}
use Rattle.store.specs.Orderly.{InTables}
use Rattle.sharing.specs.Reached.{place}
use Rattle.sharing.specs.Sides.{is_in, side_of}
use Rattle.sharing.specs.Search.{added, all_taken, at, context_taken, contexts_taken, entry_taken, found, named_taken, slots_taken, sum_of, tasks_taken, widened}
use Rattle.sharing.specs.declared.gathering.Gathering.{Gathering}
use Rattle.sharing.specs.declared.side.Side.{Side as CodedSide}
use Rattle.sharing.specs.declared.side.Side.TheVariants.{Only, Others}
use Rattle.sharing.proofs.Taking.{found_same}
use Rattle.sharing.proofs.Weights.{has_left, has_right}
use Rattle.sharing.proofs.Finds.{Fine, FoundWith, Grows, Sourced, grows_twice, same_grows, still_found, taken_fine, taken_grows}

pub place_low : (t i : ℕ) → t < 9 → i < 64 → place t i < 576
place_low t i a b = omega arith

pub place_table : (t i : ℕ) → i < 64 → place t i / 64 ≡ t
place_table t i b = omega arith

pub place_index : (t i : ℕ) → i < 64 → place t i % 64 ≡ i
place_index t i b = omega arith

-- a descriptor is found with all its rights at least
abbrev pub Covers : Gathering → Descriptor → Type 0
Covers g d = FoundWith g (place d.table d.index) d.rights

-- more was found, the descriptors of a class among it
pub record Took (s : State) (A : Side) (g h : Gathering) (C : Descriptor → Type 0) : Type 0 where
  pub fine : Fine s A [] h
  pub grows : Grows g h
  pub covers : (d : Descriptor) → C d → Covers h d

pub in_of_get : (cs : List ℕ) (k c : ℕ) → slice_get cs k ≡ Some c → In c cs
in_of_get [] k c e = absurd (none-some c e)
in_of_get (b ∷ cs) zero c e = let same : b ≡ c = same_Some b c e in rw same here
in_of_get (b ∷ cs) (suc k) c e = below (in_of_get cs k c e)

pub get_of_in : (cs : List ℕ) (c : ℕ) → In c cs → (k : ℕ) × (slice_get cs k ≡ Some c)
get_of_in [] c i = elim i [ ]
get_of_in (c ∷ cs) _ here = (0, refl)
get_of_in (b ∷ cs) c (below i) = let k = get_of_in cs c i in (suc k.0, k.1)

-- a task is one of a side's, in the code and as it is meant
pub of_side : (A : CodedSide) (q : ℕ) → is_in A q ≡ true → side_of A q
of_side (Only P) q e = eqb-true q P e
of_side (Others P) q e = eqb-false q P (not-true (q == P) e)

pub of_code : (A : CodedSide) (q : ℕ) → side_of A q → is_in A q ≡ true
of_code (Only P) q m = eq-eqb q P m
of_code (Others P) q m = not_from_false (q == P) (ne_eqb q P m)

-- a descriptor in one of the first n slots that are shown
pub record InSlots (s : State) (v : Shown) (n : ℕ) (d : Descriptor) : Type 0 where
  pub at : ℕ
  pub low : at < n
  pub names : named s (held s (record { by = v; at = at })) ≡ Some d

-- in one of the first n open contexts of a task
pub record InContexts (s : State) (q n : ℕ) (d : Descriptor) : Type 0 where
  pub number : ℕ
  pub low : number < n
  pub context : ℕ
  pub is_open : slice_get (stack s q) number ≡ Some context
  pub slots : InSlots s (shown s q context) (shown s q context).slots d

-- in an open context of one of the first n tasks, if it is of the side
pub record InTasks (s : State) (B : CodedSide) (n : ℕ) (d : Descriptor) : Type 0 where
  pub task : ℕ
  pub low : task < n
  pub is_of : is_in B task ≡ true
  pub contexts : InContexts s task (level s task) d

module _ (s : State) (tables : InTables s) where
  pub at_low : (n : ℕ) (e : Entry) → at s n ≡ Some e → n < 576
  at_low n e is = let t : n / 64 < 9 = (tables.entries (n / 64) (n % 64) e is).0 in omega arith

  pub at_place : (t i : ℕ) (e : Entry) → entry s t i ≡ Some e → at s (place t i) ≡ Some e
  at_place t i e is =
      let low : i < 64 = (tables.entries t i e is).1 in
      rw (place_table t i low, place_index t i low) is

  module _ (A : Side) where
    pub obtained_there : (d : Descriptor) → Obtains s A d → (e : Entry) × (entry s d.table d.index ≡ Some e)
    obtained_there _ (in_context q c k d m h slot) = named_entry s (held s (record { by = shown s q c; at = k })) d slot.1
    obtained_there _ (in_shown e k d h right slot) = named_entry s (held s (record { by = shown s e.table e.index; at = k })) d slot.1
    obtained_there _ (amplified c d k h right is h' same) = obtained_there d h'

    pub sourced_by : (d : Descriptor) → Obtains s A d → Sourced s A (place d.table d.index) d.rights
    sourced_by d h =
        let there = obtained_there d h in
        let low : d.index < 64 = (tables.entries d.table d.index there.0 there.1).1 in
        let t : place d.table d.index / 64 ≡ d.table = place_table d.table d.index low in
        let i : place d.table d.index % 64 ≡ d.index = place_index d.table d.index low in
        record {
          obtained = record { by = d; obtained = h; same_table = sym t; same_index = sym i };
          each = λ r has_it. record { by = d; obtained = h; same_table = sym t; same_index = sym i; has_right = has_it };
        }

    pub took_both : (g h i : Gathering) (C D E : Descriptor → Type 0) → Took s A g h C → Took s A h i D → ((d : Descriptor) → E d → (C d) ⊎ (D d)) → Took s A g i E
    took_both g h i C D E a b split = record {
      fine = b.fine;
      grows = grows_twice g h i a.grows b.grows;
      covers = λ d e. elim (split d e) [
        | inl c ↦ still_found h i b.grows (place d.table d.index) d.rights (a.covers d c)
        | inr c ↦ b.covers d c
      ];
    }

    named_took : (g : Gathering) → Fine s A [] g → (w : ℕ) → ((d : Descriptor) → named s w ≡ Some d → Obtains s A d) → Took s A g (named_taken s (named s w) g) (λ d. named s w ≡ Some d)
    named_took g f w of = go (named s w) refl
      where
        enter : (d : Descriptor) (y : Option Entry) → named s w ≡ Some d → entry s d.table d.index ≡ y → Took s A g (entry_taken d y g) (λ x. named s w ≡ Some x)
        enter d None is there = let e = named_entry s w d is in absurd (none-some e.0 (sym there ∙ e.1))
        enter d (Some e) is there =
            let inside = tables.entries d.table d.index e there in
            let low : place d.table d.index < 576 = place_low d.table d.index inside.0 inside.1 in
            record {
              fine = taken_fine s A [] [] g f (place d.table d.index) e d.rights low (at_place d.table d.index e there) (sourced_by d (of d is)) (λ m other i. i);
              grows = taken_grows (place d.table d.index) e d.rights g f.listed.places low;
              covers = λ x is'.
                  let same : d ≡ x = same_Some d x (sym is ∙ is') in
                  rw (← same)
                  (record {
                    all = widened g (place d.table d.index) e d.rights;
                    is_found = found_same g (place d.table d.index) e d.rights f.listed.places low;
                    within = λ r h. has_left (bit_or (sum_of (found g (place d.table d.index))) d.rights) (added g (kind_of e)) r (has_right (sum_of (found g (place d.table d.index))) d.rights r h);
                  });
            }

        go : (x : Option Descriptor) → named s w ≡ x → Took s A g (named_taken s x g) (λ d. named s w ≡ Some d)
        go None is = record { fine = f; grows = same_grows g; covers = λ d e. absurd (none-some d (sym is ∙ e)) }
        go (Some d) is = enter d (entry s d.table d.index) is refl

    pub slots_took : (g : Gathering) → Fine s A [] g → (v : Shown) (n : ℕ) → ((d : Descriptor) → InSlots s v n d → Obtains s A d) → Took s A g (slots_taken s v n g) (InSlots s v n)
    unfolding slots_taken
    slots_took g f v zero of = record { fine = f; grows = same_grows g; covers = λ d i. absurd (omega (arith, i.low)) }
    slots_took g f v (suc n) of =
        let before : Took s A g (slots_taken s v n g) (InSlots s v n) = slots_took g f v n (λ d i. of d (record { at = i.at; low = omega (arith, i.low); names = i.names })) in
        let w : ℕ = held s (record { by = v; at = n }) in
        let last : Took s A (slots_taken s v n g) (named_taken s (named s w) (slots_taken s v n g)) (λ d. named s w ≡ Some d) = named_took (slots_taken s v n g) before.fine w (λ d is. of d (record { at = n; low = omega arith; names = is })) in
        took_both g (slots_taken s v n g) (named_taken s (named s w) (slots_taken s v n g)) (InSlots s v n) (λ d. named s w ≡ Some d) (InSlots s v (suc n)) before last
        (λ d i. elim (cases_eq i.at n) [
          | inl same ↦ inr (rw same at i.names)
          | inr other ↦ inl (record { at = i.at; low = omega (arith, i.low, other); names = i.names })
        ])

    pub contexts_took : (g : Gathering) → Fine s A [] g → (q n : ℕ) → A q → Took s A g (contexts_taken s q n g) (InContexts s q n)
    unfolding contexts_taken
    contexts_took g f q zero m = record { fine = f; grows = same_grows g; covers = λ d i. absurd (omega (arith, i.low)) }
    contexts_took g f q (suc n) m =
        let h : Gathering = contexts_taken s q n g in
        let before : Took s A g h (InContexts s q n) = contexts_took g f q n m in
        let last : Took s A h (context_taken s q (slice_get (stack s q) n) h) (λ d. (c : ℕ) × ((slice_get (stack s q) n ≡ Some c) × InSlots s (shown s q c) (shown s q c).slots d)) = go h before.fine (slice_get (stack s q) n) refl in
        took_both g h (context_taken s q (slice_get (stack s q) n) h) (InContexts s q n) (λ d. (c : ℕ) × ((slice_get (stack s q) n ≡ Some c) × InSlots s (shown s q c) (shown s q c).slots d)) (InContexts s q (suc n)) before last
        (λ d i. elim (cases_eq i.number n) [
          | inl same ↦ inr (i.context, (rw same at i.is_open, i.slots))
          | inr other ↦ inl (record { number = i.number; low = omega (arith, i.low, other); context = i.context; is_open = i.is_open; slots = i.slots })
        ])
      where
        go : (h : Gathering) → Fine s A [] h → (x : Option ℕ) → slice_get (stack s q) n ≡ x → Took s A h (context_taken s q x h) (λ d. (c : ℕ) × ((slice_get (stack s q) n ≡ Some c) × InSlots s (shown s q c) (shown s q c).slots d))
        go h f' None is = record { fine = f'; grows = same_grows h; covers = λ d i. absurd (none-some i.0 (sym is ∙ i.1.0)) }
        go h f' (Some c) is =
            let took : Took s A h (all_taken s q c h) (InSlots s (shown s q c) (shown s q c).slots) = slots_took h f' (shown s q c) (shown s q c).slots (λ d i. in_context q c i.at d m (in_of_get (stack s q) n c is) (i.low, i.names)) in
            record {
              fine = took.fine;
              grows = took.grows;
              covers = λ d i. let same : i.0 ≡ c = same_Some i.0 c (sym i.1.0 ∙ is) in took.covers d (rw same at i.1.1);
            }

  pub tasks_took : (B : CodedSide) (g : Gathering) → Fine s (side_of B) [] g → (n : ℕ) → Took s (side_of B) g (tasks_taken s B n g) (InTasks s B n)
  unfolding tasks_taken
  tasks_took B g f zero = record { fine = f; grows = same_grows g; covers = λ d i. absurd (omega (arith, i.low)) }
  tasks_took B g f (suc n) =
      let h : Gathering = tasks_taken s B n g in
      let before : Took s (side_of B) g h (InTasks s B n) = tasks_took B g f n in
      elim (cases_Bool (is_in B n)) [
        | inl mine ↦
            rw mine
            (took_both (side_of B) g h (contexts_taken s n (level s n) h) (InTasks s B n) (InContexts s n (level s n)) (InTasks s B (suc n)) before (contexts_took (side_of B) h before.fine n (level s n) (of_side B n mine))
            (λ d i. elim (cases_eq i.task n) [
              | inl same ↦ inr (rw same at i.contexts)
              | inr other ↦ inl (record { task = i.task; low = omega (arith, i.low, other); is_of = i.is_of; contexts = i.contexts })
            ]))
        | inr not_mine ↦
            rw not_mine
            (record {
              fine = before.fine;
              grows = before.grows;
              covers = λ d i. elim (cases_eq i.task n) [
                | inl same ↦ let mine : is_in B n ≡ true = rw same at i.is_of in let wrong : true ≡ false = sym mine ∙ not_mine in cc
                | inr other ↦ before.covers d (record { task = i.task; low = omega (arith, i.low, other); is_of = i.is_of; contexts = i.contexts })
              ];
            })
      ]
