-- The laws of the units that a bank uses.
use Rattle.std.proofs.Common.{◌≡◌, ℕ, suc, ◌-◌, ◌<◌, ◌≤◌, min, List, [], ◌∷◌, length, set, take, sym, refl, ap, ◌∙◌, inl, inr, arith}
use lib.Seq.{take-set-lt}
use Rattle.std.proofs.lemmas.List.{length-take, drop-set-lt, take_all}
use Rattle.std.proofs.lemmas.Bool.{cases_lt}
use Rattle.bank.specs.Runs.{write_run}
use Rattle.bank.specs.Units.{used, unused}

pub length-used : {X : Type 0} (l : List X) → length (used l) ≡ min (length l) 65536
unfolding used
length-used l = length-take 65536 l ∙ omega arith

pub set-used : {X : Type 0} (l : List X) (i : ℕ) (x : X) → i < 65536 → used (set l i x) ≡ set (used l) i x
unfolding used
set-used l i x h = take-set-lt 65536 l i x h

pub set-unused : {X : Type 0} (l : List X) (i : ℕ) (x : X) → i < 65536 → unused (set l i x) ≡ unused l
unfolding unused
set-unused l i x h = drop-set-lt 65536 l i x h

pub write_run-used : {X : Type 0} (l : List X) (a : ℕ) (xs : List X) → length xs ≤ 65536 - a → used (write_run l a xs) ≡ write_run (used l) a xs
unfolding write_run
write_run-used l a [] h = refl
write_run-used l a (x ∷ xs) h =
    write_run-used (set l a x) (suc a) xs (omega arith) ∙ ap (λ m. write_run m (suc a) xs) (set-used l a x (omega arith))

pub write_run-unused : {X : Type 0} (l : List X) (a : ℕ) (xs : List X) → length xs ≤ 65536 - a → unused (write_run l a xs) ≡ unused l
unfolding write_run
write_run-unused l a [] h = refl
write_run-unused l a (x ∷ xs) h = write_run-unused (set l a x) (suc a) xs (omega arith) ∙ set-unused l a x (omega arith)

-- memory of at most 65,536 units is used whole
pub used_all : {X : Type 0} (l : List X) → length l ≤ 65536 → used l ≡ l
unfolding used
used_all l h = take_all 65536 l h

-- as many units as the bank uses, from the front
pub used_least : {X : Type 0} (l : List X) (n : ℕ) → n ≡ min (length l) 65536 → take n l ≡ used l
unfolding used
used_least l n e =
    elim (cases_lt (length l) 65536) [
      | inl less ↦ take_all n l (omega arith) ∙ sym (take_all 65536 l (omega arith))
      | inr all ↦ let limit : n ≡ 65536 = omega arith in rw limit
    ]
