-- What two chips of memory mean together: the bytes of even addresses stand in the first, those of
-- odd ones in the second.
use Rattle.std.specs.Prelude.{◌≡◌, ℕ, suc, ◌*◌, ◌/◌, ◌%◌, ◌==◌, Bool, cond, min, nat_lt, List, [], ◌∷◌, length, map, slice_index, slice_set}
use Rattle.std.specs.List.{range_with_len}
use Rattle.two_chips.specs.declared.chips.TwoChipBank.{TwoChipBank}

-- what the chips hold
pub record Chips : Type 0 where
  pub first : List ℕ
  pub second : List ℕ

-- how many bytes they mean: twice the length of the shorter, at most 65,536
abbrev pub size : Chips → ℕ
size c = min (2 * min (length c.first) (length c.second)) 65536

-- even addresses are in the first chip, the others in the second
abbrev pub is_in_first : ℕ → Bool
is_in_first a = a % 2 == 0

-- each at half of it, rounded down
abbrev pub place : ℕ → ℕ
place a = a / 2

-- the byte of an address
unfoldable pub byte_at : Chips → ℕ → ℕ
byte_at c a = slice_index (cond (is_in_first a) c.first c.second) (place a)

-- the list of bytes that they mean
unfoldable pub bytes_of : Chips → List ℕ
bytes_of c = map (byte_at c) (range_with_len 0 (size c))

-- the same place with another byte, and all else as it was
unfoldable pub set_at : Chips → ℕ → ℕ → Chips
set_at c a b =
    cond (is_in_first a) (record c { first = slice_set c.first (place a) b })
    (record c { second = slice_set c.second (place a) b })

-- a byte written at an address, which does nothing at and beyond the size
unfoldable pub put : Chips → ℕ → ℕ → Chips
put c a b = cond (nat_lt a (size c)) (set_at c a b) c

-- a run written from an address on, one byte after the other
unfoldable pub put_run : Chips → ℕ → List ℕ → Chips
put_run c a [] = c
put_run c a (b ∷ bs) = put_run (put c a b) (suc a) bs

-- the chips that are lent to a bank
abbrev pub chips_of : TwoChipBank → Chips
chips_of bank = record { first = bank.first.now; second = bank.second.now }

-- after a write the chips hold this, and they are the ones that were lent
pub record Rewrites (old new : TwoChipBank) (c : Chips) : Type 0 where
  pub chips : chips_of new ≡ c
  pub first_lent : new.first.ghost_name ≡ old.first.ghost_name
  pub second_lent : new.second.ghost_name ≡ old.second.ghost_name
