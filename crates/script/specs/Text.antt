-- The text of a script: its numbers, fields and lines.
use Rattle.std.specs.Prelude.{ℕ, ◌+◌, ◌-◌, ◌*◌, ◌&&◌, List, [], ◌∷◌, length, Some, None, Option, ◌==◌, nat_le, if◌then◌else◌}
use Rattle.std.specs.Str.{all_ascii_digits}

-- the number that digits write, after those that wrote n
abbrev pub value_from : ℕ → List ℕ → ℕ
value_from n [] = n
value_from n (b ∷ bs) = value_from (n * 10 + (b - 48)) bs

-- a number has 1 to 5 digits and is at most 65,535
unfoldable pub number_of : List ℕ → Option ℕ
number_of bs =
    if all_ascii_digits bs && nat_le 1 (length bs) && nat_le (length bs) 5 && nat_le (value_from 0 bs) 65535
    then Some (value_from 0 bs)
    else None

-- what stands before the first separator, and what stands behind it, if there is one
unfoldable pub before : ℕ → List ℕ → List ℕ
before sep [] = []
before sep (b ∷ bs) = if b == sep then [] else b ∷ before sep bs

unfoldable pub behind : ℕ → List ℕ → Option (List ℕ)
behind sep [] = None
behind sep (b ∷ bs) = if b == sep then Some bs else behind sep bs

-- the lines of a text, each ended by byte 10, which the last may lack
abbrev pub joined : ℕ → List (List ℕ) → List (List ℕ)
joined b [] = (b ∷ []) ∷ []
joined b (l ∷ ls) = (b ∷ l) ∷ ls

unfoldable pub lines_of : List ℕ → List (List ℕ)
lines_of [] = []
lines_of (b ∷ bs) = if b == 10 then [] ∷ lines_of bs else joined b (lines_of bs)
