-- The rights in one set or another are rights.
use Rattle.std.proofs.Common.{◌≡◌, ℕ, ◌<◌, ◌%◌, bit_or, arith}
use Rattle.std.proofs.lemmas.Nat.{or_lt}

pub or_of_rights : (a b : ℕ) → a < 64 → b < 64 → bit_or a b % 64 ≡ bit_or a b
or_of_rights a b h k = let small : bit_or a b < 64 = or_lt 6 a b h k in omega arith
