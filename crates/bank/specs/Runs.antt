-- What reading and writing a run of bytes means on the list of bytes of a bank.
use Rattle.std.specs.Prelude.{ℕ, zero, suc, List, [], ◌∷◌, slice_index, slice_set}

-- the n bytes from address a on; at and beyond the end of the list each reads as 0
unfoldable pub read_run : List ℕ → ℕ → ℕ → List ℕ
read_run l a zero = []
read_run l a (suc n) = slice_index l a ∷ read_run l (suc a) n

-- the list with the given bytes from address a on; what would fall at or beyond its end is left out
unfoldable pub write_run : {X : Type 0} → List X → ℕ → List X → List X
write_run l a [] = l
write_run l a (b ∷ bs) = write_run (slice_set l a b) (suc a) bs
