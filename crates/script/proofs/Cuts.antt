-- Cutting a text at its first separator.
use Rattle.std.proofs.Common.{◌≡◌, ℕ, zero, suc, ◌+◌, ◌<◌, ◌≤◌, List, [], ◌∷◌, length, get_or, take, drop, Some, None, refl, ◌∙◌, le_of_suc-le-suc, add-one, arith}
use Rattle.std.proofs.lemmas.Bool.{eq-eqb, ne_eqb}
use Rattle.std.specs.List.{AllWithin, HoldsAt}
use Rattle.script.specs.Text.{before, behind}

-- at is the place of the first separator, or the end
pub record First (sep : ℕ) (l : List ℕ) (at : ℕ) : Type 0 where
  pub within : at ≤ length l
  pub none : (k : ℕ) → k < at → get_or l k 0 ≡ sep → ⊥
  pub found : at < length l → get_or l at 0 ≡ sep

pub first_some : (sep : ℕ) (l : List ℕ) (at : ℕ) → (at < length l) × HoldsAt (λ x. x ≡ sep) l at × AllWithin (λ x. x ≡ sep → ⊥) l 0 at → First sep l at
first_some sep l at f = record { within = omega arith; none = λ k h. f.2 k 0 (omega arith) h; found = λ h. f.1 0 }

pub first_none : (sep : ℕ) (l : List ℕ) → AllWithin (λ x. x ≡ sep → ⊥) l 0 (length l) → First sep l (length l)
first_none sep l f = record { within = omega arith; none = λ k h. f k 0 (omega arith) h; found = λ h. absurd (omega arith) }

later : {sep b : ℕ} {l : List ℕ} {at : ℕ} → First sep (b ∷ l) (suc at) → First sep l at
later f = record { within = le_of_suc-le-suc f.within; none = λ k h. f.none (suc k) (omega arith); found = λ h. f.found (omega arith) }

pub before_is : (sep : ℕ) (l : List ℕ) (at : ℕ) → First sep l at → before sep l ≡ take at l
unfolding before
before_is sep [] zero f = refl
before_is sep [] (suc at) f = refl
before_is sep (b ∷ l) zero f = rw (eq-eqb b sep (f.found (omega arith)))
before_is sep (b ∷ l) (suc at) f = rw (ne_eqb b sep (f.none 0 (omega arith)), before_is sep l at (later f))

pub behind_some : (sep : ℕ) (l : List ℕ) (at : ℕ) → First sep l at → at < length l → behind sep l ≡ Some (drop (at + 1) l)
unfolding behind
behind_some sep [] at f h = absurd (omega arith)
behind_some sep (b ∷ l) zero f h = rw (eq-eqb b sep (f.found h))
behind_some sep (b ∷ l) (suc at) f h = rw (ne_eqb b sep (f.none 0 (omega arith))) (behind_some sep l at (later f) (le_of_suc-le-suc h) ∙ rw (add-one at, add-one (suc at)))

pub behind_none : (sep : ℕ) (l : List ℕ) (at : ℕ) → First sep l at → length l ≤ at → behind sep l ≡ None
unfolding behind
behind_none sep [] at f h = refl
behind_none sep (b ∷ l) zero f h = absurd (omega arith)
behind_none sep (b ∷ l) (suc at) f h = rw (ne_eqb b sep (f.none 0 (omega arith))) (behind_none sep l at (later f) (le_of_suc-le-suc h))
