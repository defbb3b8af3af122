-- Runs of bytes that are interleaved of two.
use Rattle.std.specs.Prelude.{◌≡◌, ℕ, ◌+◌, ◌*◌, ◌<◌, Bool, true, false, List, [], ◌∷◌, slice_index}

-- every other byte of a run, its first among them or not
unfoldable pub every_other : {X : Type 0} → Bool → List X → List X
every_other b [] = []
every_other true (x ∷ xs) = x ∷ every_other false xs
every_other false (x ∷ xs) = every_other true xs

-- the bytes at even places: its first, its third and so on
abbrev pub evens : {X : Type 0} → List X → List X
evens xs = every_other true xs

-- those at odd places: its second, its fourth and so on
abbrev pub odds : {X : Type 0} → List X → List X
odds xs = every_other false xs

-- the first n pairs of a run are the first n bytes of two others, in turn
abbrev pub Interleaved : ℕ → List ℕ → List ℕ → List ℕ → Type 0
Interleaved n lead follow run =
    (i : ℕ) → i < n →
    (slice_index lead i ≡ slice_index run (2 * i))
    × (slice_index follow i ≡ slice_index run (2 * i + 1))
