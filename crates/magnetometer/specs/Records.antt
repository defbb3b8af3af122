-- A magnetometer record: its bytes, its text and its length.
use Rattle.std.specs.Prelude.{ℕ, ◌+◌, ◌*◌, ◌/◌, ◌%◌, List, [], ◌∷◌, ◌++◌, ℤ, FitsSigned, codes, unsigned_abs}
use Rattle.std.specs.Fmt.{signed_decimal}
use Rattle.std.specs.Int.{w16}
use Rattle.std.proofs.Common.{of_z}
use Rattle.magnetometer.specs.declared.Record.{Record}

-- each component is a signed number of 16 bits
abbrev pub IsInRange : Record → Type 0
IsInRange v = FitsSigned w16 v.x × FitsSigned w16 v.y × FitsSigned w16 v.z

-- x, y and z in this order, each in two's complement with its low byte first
abbrev pub record_bytes : Record → List ℕ
record_bytes v = low v.x ∷ high v.x ∷ low v.y ∷ high v.y ∷ low v.z ∷ high v.z ∷ []
  where
    low : ℤ → ℕ
    low n = of_z w16 n % 256

    high : ℤ → ℕ
    high n = of_z w16 n / 256 % 256

-- x, y and z in this order, with spaces between them
abbrev pub record_text : Record → List ℕ
record_text v =
    signed_decimal v.x ++ codes " " ++ signed_decimal v.y ++ codes " " ++ signed_decimal v.z

-- the sum of the squares of x, y and z
abbrev pub length_squared : Record → ℕ
length_squared v = square v.x + square v.y + square v.z
  where
    square : ℤ → ℕ
    square n = unsigned_abs n * unsigned_abs n
