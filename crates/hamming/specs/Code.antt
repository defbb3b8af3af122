-- The Hamming code of the coded bank: a byte in a 16-bit word, of which positions 1 to 12 are used.
-- Position k is bit k - 1.
use Rattle.std.specs.Prelude.{ℕ, suc, ◌+◌, ◌-◌, ◌*◌, ◌/◌, ◌%◌, ◌^◌, Bool, true, cond, ◌&&◌, List, [], ◌∷◌, ◌==◌, bit_and, bit_xor, nat_le, nat_lt}

-- 1 if position k of the word holds a one, else 0
abbrev pub bit_at : ℕ → ℕ → ℕ
bit_at w k = w / 2 ^ (k - 1) % 2

-- the word with position k flipped
abbrev pub turned : ℕ → ℕ → ℕ
turned w k = bit_xor w (2 ^ (k - 1))

-- the positions that are used
abbrev pub positions : List ℕ
positions = 1 ∷ 2 ∷ 3 ∷ 4 ∷ 5 ∷ 6 ∷ 7 ∷ 8 ∷ 9 ∷ 10 ∷ 11 ∷ 12 ∷ []

-- those of bits 0 to 7 of the byte
abbrev pub data_positions : List ℕ
data_positions = 3 ∷ 5 ∷ 6 ∷ 7 ∷ 9 ∷ 10 ∷ 11 ∷ 12 ∷ []

-- the number whose bits, the lowest first, stand at the listed positions of a word
abbrev pub gathered : ℕ → List ℕ → ℕ
gathered w [] = 0
gathered w (k ∷ ks) = bit_at w k + 2 * gathered w ks

-- the word with the bits of a number, the lowest first, at the listed positions
abbrev pub scattered : ℕ → List ℕ → ℕ
scattered b [] = 0
scattered b (k ∷ ks) = b % 2 * 2 ^ (k - 1) + scattered (b / 2) ks

-- how many ones a word has among those listed positions whose number contains c in binary
abbrev pub ones_with : ℕ → ℕ → List ℕ → ℕ
ones_with c w [] = 0
ones_with c w (k ∷ ks) = cond (bit_and k c == c) (bit_at w k) 0 + ones_with c w ks

-- the exclusive or of the listed positions that hold ones
abbrev pub xor_of_ones : ℕ → List ℕ → ℕ
xor_of_ones w [] = 0
xor_of_ones w (k ∷ ks) = bit_xor (bit_at w k * k) (xor_of_ones w ks)

-- the check position c makes even the ones among the positions that contain it
abbrev pub even : ℕ → ℕ → Bool
even c w = ones_with c w positions % 2 == 0

-- the rule of a code word: it carries the byte, each check position makes its ones even, and bits
-- 12 to 15 are 0
abbrev pub codes : ℕ → ℕ → Bool
codes b w =
    gathered w data_positions == b
    && even 1 w && even 2 w && even 4 w && even 8 w && nat_lt w 4096

-- a test passes at each entry of a list and its place, the places being counted from i
abbrev pub every : (ℕ → ℕ → Bool) → ℕ → List ℕ → Bool
every f i [] = true
every f i (x ∷ xs) = f i x && every f (suc i) xs

-- the one word that keeps the rule: a check position is set if the ones that it covers would be odd
-- without it
unfoldable pub code_word : ℕ → ℕ
code_word b =
    let w : ℕ = scattered b data_positions in
    w + ones_with 1 w positions % 2 + ones_with 2 w positions % 2 * 2
    + ones_with 4 w positions % 2 * 8 + ones_with 8 w positions % 2 * 128

-- the byte that a word carries as it stands
unfoldable pub data_bits : ℕ → ℕ
data_bits w = gathered w data_positions

-- the exclusive or of the positions that hold ones: 0 at a code word
unfoldable pub syndrome : ℕ → ℕ
syndrome w = xor_of_ones w positions

-- the word with the position flipped that its syndrome names, if it is one of the positions
abbrev pub corrected : ℕ → ℕ
corrected w = cond (nat_le 1 (syndrome w) && nat_le (syndrome w) 12) (turned w (syndrome w)) w

-- the byte that a word reads as; bits 12 to 15 are ignored
abbrev pub decoded : ℕ → ℕ
decoded w = data_bits (corrected (w % 4096))
