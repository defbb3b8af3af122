-- Where the entries of tables stand in a sound store.
use Rattle.std.proofs.Common.{◌≡◌, ◌≢◌, ℕ, ◌+◌, ◌*◌, ◌<◌, ◌≤◌, List, [], ◌∷◌, length, get_or, Some, None, ◌⊎◌, inl, inr, arith}
use Rattle.std.proofs.lemmas.Bool.{cases_lt, cases_order}
use Rattle.std.proofs.lemmas.List.{get_or_past}
use Rattle.rules.specs.declared.entry.Entry.{Entry}
use Rattle.rules.specs.declared.entry.Entry.TheVariants.{Object}
use Rattle.rules.specs.declared.entry.Storage.{Storage}
use Rattle.rules.specs.State.{State, table, stack, entry, no_table, block_start}
use Rattle.rules.proofs.Entries.{entry_within}
use Rattle.soundness.specs.Sound.{Sound, Takes}

-- entries stand in the first nine tables, no more than 64 in each, and a task with an open context is one of the first nine
among_nine : {X : Type 0} (xs : List X) (i : ℕ) (d : X) → length xs ≡ 9 → get_or xs i d ≢ d → i < 9
among_nine xs i d nine other =
    elim (cases_lt i 9) [
      | inl less ↦ less
      | inr past ↦ absurd (other (get_or_past xs i d (omega arith)))
    ]

module _ (s : State) (h : Sound s) where
  pub known_table : (t i : ℕ) (e : Entry) → entry s t i ≡ Some e → t < 9
  unfolding entry table
  known_table t i e is = among_nine s.tables t no_table h.nine_tables (λ none. let wrong : None ≡ Some e = rw none at is in cc)

  pub known_index : (t i : ℕ) (e : Entry) → entry s t i ≡ Some e → i < 64
  known_index t i e is = omega (arith, entry_within s t i e is, h.few_entries t)

  pub known_task : (q c : ℕ) (cs : List ℕ) → stack s q ≡ c ∷ cs → q < 9
  unfolding stack
  known_task q c cs is = among_nine s.stacks q [] h.nine_stacks (λ none. let wrong : [] ≡ c ∷ cs = rw none at is in cc)

-- objects that lie in the claims of their tables, in order, lie one wholly before the other, and share no byte
module _ (s : State)
    (in_claim : (t i : ℕ) (o : Storage) → entry s t i ≡ Some (Object o) → (block_start t + 4 * o.slots ≤ o.base) × (o.base + o.bytes ≤ block_start t + (table s t).claim))
    (small_claim : (t : ℕ) → (table s t).claim ≤ 2048)
    (in_order : (t i j : ℕ) (o p : Storage) → i < j → entry s t i ≡ Some (Object o) → entry s t j ≡ Some (Object p) → o.base + o.bytes + 4 * p.slots ≤ p.base) where
  pub separate_of : (t i u j : ℕ) (o p : Storage) → entry s t i ≡ Some (Object o) → entry s u j ≡ Some (Object p) → ((t ≡ u) × (i ≡ j)) ⊎ ((o.base + o.bytes + 4 * p.slots ≤ p.base) ⊎ (p.base + p.bytes + 4 * o.slots ≤ o.base))
  separate_of t i u j o p is at =
      elim (cases_order t u) [
        | inl e ↦
            let at' : entry s t j ≡ Some (Object p) = rw e at in
            elim (cases_order i j) [
              | inl same ↦ inl (e, same)
              | inr (inl less) ↦ inr (inl (in_order t i j o p less is at'))
              | inr (inr more) ↦ inr (inr (in_order t j i p o more at' is))
            ]
        | inr (inl less) ↦ inr (inl (omega (arith, in_claim t i o is, small_claim t, in_claim u j p at)))
        | inr (inr more) ↦ inr (inr (omega (arith, in_claim u j p at, small_claim u, in_claim t i o is)))
      ]

  pub apart_of : (t i u j : ℕ) (o p : Storage) (a : ℕ) → entry s t i ≡ Some (Object o) → entry s u j ≡ Some (Object p) → Takes o a → Takes p a → (t ≡ u) × (i ≡ j)
  apart_of t i u j o p a is at m n =
      elim (separate_of t i u j o p is at) [
        | inl same ↦ same
        | inr (inl before) ↦ absurd (omega arith)
        | inr (inr behind) ↦ absurd (omega arith)
      ]
