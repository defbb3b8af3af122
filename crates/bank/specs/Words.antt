-- Words of four bytes, the low byte at the lowest address.
use Rattle.std.specs.Prelude.{ℕ, ◌+◌, ◌*◌, ◌/◌, ◌%◌, List, [], ◌∷◌, slice_index}

-- the word at an address; bytes at and beyond the end of the list read as 0
unfoldable pub word_at : List ℕ → ℕ → ℕ
word_at l a =
    slice_index l a + slice_index l (a + 1) * 256
    + slice_index l (a + 2) * 65536 + slice_index l (a + 3) * 16777216

-- the bytes of a word
unfoldable pub word_bytes : ℕ → List ℕ
word_bytes w = w % 256 ∷ w / 256 % 256 ∷ w / 65536 % 256 ∷ w / 16777216 % 256 ∷ []
