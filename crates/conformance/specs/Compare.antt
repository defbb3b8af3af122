-- Where two texts part.
use Rattle.std.specs.Prelude.{◌≡◌, ℕ, ◌+◌, List, length, take, filter, ◌≢◌, nat_eq}

-- how many lines end in a text
abbrev pub lines_in : List ℕ → ℕ
lines_in t = length (filter (λ b. nat_eq b 10) t)

-- they have the first k bytes in common, and no more, and n lines end in those
abbrev pub Parted : List ℕ → List ℕ → ℕ → Type 0
Parted xs ys n = (k : ℕ) × (take k xs ≡ take k ys) × (take (k + 1) xs ≢ take (k + 1) ys) × (n ≡ lines_in (take k xs))
