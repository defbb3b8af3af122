-- Which rights there are among others, and among both together.
use Rattle.std.proofs.Common.{◌≡◌, ◌⊎◌, ℕ, true, bit_or, sym, ◌∙◌}
use Rattle.std.proofs.lemmas.Bool.{both_ways, or_cases, or_left, or_right}
use Rattle.rules.specs.Code.{weight}
use Rattle.rules.specs.State.{has}
use Rattle.rules.specs.declared.rights.Right.{Right}
use Rattle.sharing.proofs.Taking.{has_zero, or_has}

-- every right among the first is among the second
abbrev pub Within : ℕ → ℕ → Type 0
Within a b = (r : Right) → has (weight r) a ≡ true → has (weight r) b ≡ true

pub has_left : (a b : ℕ) → Within a (bit_or a b)
has_left a b r h = or_has r a b ∙ or_left (has (weight r) a) (has (weight r) b) h

pub has_right : (a b : ℕ) → Within b (bit_or a b)
has_right a b r h = or_has r a b ∙ or_right (has (weight r) a) (has (weight r) b) h

pub has_either : (r : Right) (a b : ℕ) → has (weight r) (bit_or a b) ≡ true → (has (weight r) a ≡ true) ⊎ (has (weight r) b ≡ true)
has_either r a b h = or_cases (has (weight r) a) (has (weight r) b) (sym (or_has r a b) ∙ h)

pub has_none : (r : Right) → has (weight r) 0 ≡ true → ⊥
has_none r h = both_ways (has (weight r) 0) (has_zero r) h
