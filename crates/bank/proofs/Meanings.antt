-- Units that mean bytes: what is written as the units of bytes reads as those bytes.
use Rattle.std.proofs.Common.{◌≡◌, ℕ, zero, suc, ◌<◌, List, [], ◌∷◌, map, length, get_or, take, drop, set, replicate, sym, refl, ap, ◌∙◌, lit<, arith}
use Rattle.std.proofs.lemmas.List.{length-map, map-set, take-map, drop-map}
use Rattle.bank.specs.Runs.{write_run}
use Rattle.bank.specs.Words.{word_bytes}

module _ (X : Type 0) (byte_of : X → ℕ) (unit_of : ℕ → X) (back : (b : ℕ) → b < 256 → byte_of (unit_of b) ≡ b) where
  set_each : (l : List X) (a b : ℕ) → b < 256 → map byte_of (set l a (unit_of b)) ≡ set (map byte_of l) a b
  set_each l a b h = map-set byte_of l a (unit_of b) ∙ ap (set (map byte_of l) a) (back b h)

  run_each : (l : List X) (a : ℕ) (bs : List ℕ) → ((i : ℕ) → get_or bs i 0 < 256) → map byte_of (write_run l a (map unit_of bs)) ≡ write_run (map byte_of l) a bs
  unfolding write_run
  run_each l a [] h = refl
  run_each l a (b ∷ bs) h =
      run_each (set l a (unit_of b)) (suc a) bs (λ i. h (suc i)) ∙ ap (λ (m : List ℕ). write_run m (suc a) bs) (set_each l a b (h 0))

  module _ (bytes_of : List X → List ℕ) (bytes_each : (us : List X) → bytes_of us ≡ map byte_of us) where
    pub length-bytes_of : (us : List X) → length (bytes_of us) ≡ length us
    length-bytes_of us = ap length (bytes_each us) ∙ length-map us byte_of

    pub bytes_of-set : (us : List X) (a b : ℕ) → b < 256 → bytes_of (set us a (unit_of b)) ≡ set (bytes_of us) a b
    bytes_of-set us a b h = bytes_each (set us a (unit_of b)) ∙ set_each us a b h ∙ ap (λ (l : List ℕ). set l a b) (sym (bytes_each us))

    pub bytes_of-part : (us : List X) (f k : ℕ) → bytes_of (take k (drop f us)) ≡ take k (drop f (bytes_of us))
    bytes_of-part us f k =
        bytes_each (take k (drop f us)) ∙ sym (take-map byte_of k (drop f us)) ∙ ap (take k) (sym (drop-map byte_of f us)) ∙ ap (λ (l : List ℕ). take k (drop f l)) (sym (bytes_each us))

    pub bytes_of-write_run : (us : List X) (a : ℕ) (bs : List ℕ) → ((i : ℕ) → get_or bs i 0 < 256) → bytes_of (write_run us a (map unit_of bs)) ≡ write_run (bytes_of us) a bs
    bytes_of-write_run us a bs h = bytes_each (write_run us a (map unit_of bs)) ∙ run_each us a bs h ∙ ap (λ (l : List ℕ). write_run l a bs) (sym (bytes_each us))

-- zeros are bytes, and become equal units
pub zero_bytes : (n i : ℕ) → get_or (replicate n 0) i 0 < 256
zero_bytes zero i = lit< tt
zero_bytes (suc n) zero = lit< tt
zero_bytes (suc n) (suc i) = zero_bytes n i

pub map-zeros : {X : Type 0} (f : ℕ → X) (n : ℕ) → map f (replicate n 0) ≡ replicate n (f 0)
map-zeros f zero = refl
map-zeros f (suc n) = ap (λ us. f 0 ∷ us) (map-zeros f n)

-- the bytes of a word are bytes
pub word_bytes-small : (w i : ℕ) → get_or (word_bytes w) i 0 < 256
unfolding word_bytes
word_bytes-small w zero = omega arith
word_bytes-small w (suc zero) = omega arith
word_bytes-small w (suc (suc zero)) = omega arith
word_bytes-small w (suc (suc (suc zero))) = omega arith
word_bytes-small w (suc (suc (suc (suc i)))) = lit< tt
