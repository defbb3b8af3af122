-- The entries of a table: lists of them that grow or are cut.
use Rattle.std.proofs.Common.{◌≡◌, ℕ, zero, suc, ◌<◌, List, [], ◌∷◌, ◌++◌, length, take, Some, sym, refl, ◌∙◌, ◌⊎◌, inl, inr, arith, length-append}
use Rattle.std.proofs.lemmas.Bool.{cases_lt}
use Rattle.std.proofs.lemmas.List.{length-take}
use Rattle.std.proofs.lemmas.Option.{slice_get_within}
use Rattle.std.specs.List.{slice_get}
use Rattle.rules.specs.declared.entry.Entry.{Entry}
use Rattle.rules.specs.State.{State, table, entry}

module _ {X : Type 0} where
  -- what stands in a list with one element more, before its end and there
  pub slice_get_append : (xs : List X) (x : X) (i : ℕ) → i < length xs → slice_get (xs ++ x ∷ []) i ≡ slice_get xs i
  slice_get_append [] x i h = absurd (omega arith)
  slice_get_append (y ∷ xs) x zero h = refl
  slice_get_append (y ∷ xs) x (suc i) h = slice_get_append xs x i (omega arith)

  pub slice_get_end : (xs : List X) (x : X) → slice_get (xs ++ x ∷ []) (length xs) ≡ Some x
  slice_get_end [] x = refl
  slice_get_end (y ∷ xs) x = slice_get_end xs x

  pub slice_get_added : (xs : List X) (x y : X) (i : ℕ) → slice_get (xs ++ x ∷ []) i ≡ Some y → ((i ≡ length xs) × (y ≡ x)) ⊎ ((i < length xs) × (slice_get xs i ≡ Some y))
  slice_get_added xs x y i h =
      elim (cases_lt i (length xs)) [
        | inl less ↦ inr (less, sym (slice_get_append xs x i less) ∙ h)
        | inr past ↦
            let within : i < length (xs ++ x ∷ []) = slice_get_within (xs ++ x ∷ []) i y h in
            let last : i ≡ length xs = omega (arith, length-append xs (x ∷ [])) in
            let found : slice_get (xs ++ x ∷ []) (length xs) ≡ Some y = rw (← last) h in
            let same : y ≡ x = grind (arith, slice_get_end xs x) in
            inl (last, same)
      ]

  -- what stands before a cut
  pub slice_get_take : (n : ℕ) (xs : List X) (i : ℕ) → i < n → slice_get (take n xs) i ≡ slice_get xs i
  slice_get_take zero xs i h = absurd (omega arith)
  slice_get_take (suc n) [] i h = refl
  slice_get_take (suc n) (x ∷ xs) zero h = refl
  slice_get_take (suc n) (x ∷ xs) (suc i) h = slice_get_take n xs i (omega arith)

  pub slice_get_cut : (n : ℕ) (xs : List X) (i : ℕ) (x : X) → slice_get (take n xs) i ≡ Some x → (i < n) × (slice_get xs i ≡ Some x)
  slice_get_cut n xs i x h =
      let within = slice_get_within (take n xs) i x h in
      let less : i < n = omega (arith, length-take n xs) in
      (less, sym (slice_get_take n xs i less) ∙ h)

-- an entry that is there stands in its table
pub entry_within : (s : State) (t i : ℕ) (e : Entry) → entry s t i ≡ Some e → i < length (table s t).entries
unfolding entry
entry_within s t i e h = slice_get_within (table s t).entries i e h
