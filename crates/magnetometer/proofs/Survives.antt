-- Bytes that are stored in memory, and what is read there after a bit has flipped.
use Rattle.std.proofs.Common.{◌≡◌, ℕ, ◌+◌, ◌-◌, ◌<◌, ◌≤◌, ◌≢◌, ◌^◌, List, ◌++◌, map, length, get_or, take, sym, ap, ◌∙◌, inl, inr, arith}
use lib.Bits.{bit_xor}
use Rattle.std.proofs.lemmas.List.{length-map, length-set, get_or-map, get_or-set_same, get_or-set_other, get_or-take, take-map, take-append-drop}
use Rattle.std.proofs.lemmas.Bool.{cases_eq}
use Rattle.bank.specs.Runs.{read_run, write_run}
use Rattle.bank.specs.Units.{used, unused}
use Rattle.bank.proofs.RunLaws.{is_read_run, length-read_run, get_or-read_run, length-write_run, get_or-write_run_inside}
use Rattle.bank.proofs.UnitLaws.{write_run-used, write_run-unused}
use Rattle.hamming.specs.Code.{code_word, decoded}
use Rattle.hamming.proofs.Corrects.{word_back, upset_back}
use Rattle.magnetometer.specs.Upsets.{flipped}

-- memory is its used units and the others
whole : {X : Type 0} (m : List X) → used m ++ unused m ≡ m
unfolding used unused
whole m = take-append-drop 65536 m

-- so a run written within the used units is written within memory
pub written : {X : Type 0} (m m' us : List X) (a : ℕ) → length us ≤ 65536 - a → used m' ≡ write_run (used m) a us → unused m' ≡ unused m → m' ≡ write_run m a us
written m m' us a h u r =
    let front : used m' ≡ used (write_run m a us) = u ∙ sym (write_run-used m a us h) in
    let behind : unused m' ≡ unused (write_run m a us) = r ∙ sym (write_run-unused m a us h) in
    sym (whole m') ∙ rw (front, behind) (whole (write_run m a us))

-- and a run read within them is read within memory, also of what the units mean
pub read_used : (m : List ℕ) (a n : ℕ) → a + n ≤ 65536 → read_run (used m) a n ≡ read_run m a n
unfolding used
read_used m a n h =
    let front : List ℕ = take 65536 m in
    let long : length (read_run front a n) ≡ n = length-read_run front a n in
    is_read_run m a (read_run front a n) (λ k less. get_or-read_run front a n k (omega arith) ∙ get_or-take 65536 m (a + k) 0 (omega arith))
    ∙ ap (read_run m a) long

pub read_each : (f : ℕ → ℕ) (m : List ℕ) (a n : ℕ) → a + n ≤ 65536 → read_run (map f (used m)) a n ≡ read_run (map f m) a n
unfolding used
read_each f m a n h = ap (λ (l : List ℕ). read_run l a n) (sym (take-map f 65536 m)) ∙ read_used (map f m) a n h

-- of words that were stored as the code words of bytes, one flipped, these bytes are read
pub survived : (before bs : List ℕ) (a word bit : ℕ) → ((i : ℕ) → get_or bs i 0 < 256) → bit < 16 → a + length bs ≤ length before → read_run (map decoded (flipped (write_run before a (map code_word bs)) word bit)) a (length bs) ≡ bs
survived before bs a word bit small less room = sym (is_read_run (map decoded m) a bs (λ k h. sym (back k h)))
  where
    w : List ℕ
    w = write_run before a (map code_word bs)

    m : List ℕ
    m = flipped w word bit

    long : length w ≡ length before
    long = length-write_run before a (map code_word bs)

    stood : (k : ℕ) → k < length bs → get_or w (a + k) 0 ≡ code_word (get_or bs k 0)
    stood k h =
        let inside : k < length (map code_word bs) = rw length-map h in
        get_or-write_run_inside before a (map code_word bs) k inside (omega arith) ∙ get_or-map code_word bs k 0 0 h

    meant : (k : ℕ) → k < length bs → decoded (get_or m (a + k) 0) ≡ get_or bs k 0
    meant k h =
        elim (cases_eq (a + k) word) [
          | inl here ↦
              let there : word < length w = omega (arith, long) in
              let now : get_or m (a + k) 0 ≡ bit_xor (code_word (get_or bs k 0)) (2 ^ bit) =
              ap (λ (i : ℕ). get_or m i 0) here ∙ get_or-set_same w word _ 0 there
              ∙ ap (λ (v : ℕ). bit_xor v (2 ^ bit)) (ap (λ (i : ℕ). get_or w i 0) (sym here) ∙ stood k h) in
              let same : 2 ^ bit ≡ 2 ^ (bit + 1 - 1) = ap (λ (n : ℕ). 2 ^ n) (omega arith) in
              ap decoded (now ∙ ap (bit_xor (code_word (get_or bs k 0))) same)
              ∙ upset_back (get_or bs k 0) (bit + 1) (small k) (omega arith) (omega arith)
          | inr other ↦
              ap decoded (get_or-set_other w word (a + k) _ 0 other ∙ stood k h) ∙ word_back (get_or bs k 0) (small k)
        ]

    back : (k : ℕ) → k < length bs → get_or (map decoded m) (a + k) 0 ≡ get_or bs k 0
    back k h =
        let inside : a + k < length m = rw length-set (omega (arith, long)) in
        get_or-map decoded m (a + k) 0 0 inside ∙ meant k h

-- of bytes that were stored, one flipped, the bytes are read with that one flipped
pub shown : (before bs : List ℕ) (a byte bit : ℕ) → a + length bs ≤ length before → read_run (flipped (write_run before a bs) (a + byte) bit) a (length bs) ≡ flipped bs byte bit
shown before bs a byte bit room =
    sym (ap (read_run m a) (length-set bs byte _)) ∙ sym (is_read_run m a (flipped bs byte bit) (λ k h. sym (each k (rw length-set at h))))
  where
    w : List ℕ
    w = write_run before a bs

    m : List ℕ
    m = flipped w (a + byte) bit

    long : length w ≡ length before
    long = length-write_run before a bs

    stood : (k : ℕ) → k < length bs → get_or w (a + k) 0 ≡ get_or bs k 0
    stood k h = get_or-write_run_inside before a bs k h (omega arith)

    each : (k : ℕ) → k < length bs → get_or m (a + k) 0 ≡ get_or (flipped bs byte bit) k 0
    each k h =
        elim (cases_eq k byte) [
          | inl here ↦
              let there : a + byte < length w = omega (arith, long) in
              let less : byte < length bs = omega arith in
              ap (λ (i : ℕ). get_or m (a + i) 0) here ∙ get_or-set_same w (a + byte) _ 0 there
              ∙ ap (λ (v : ℕ). bit_xor v (2 ^ bit)) (stood byte less)
              ∙ sym (get_or-set_same bs byte _ 0 less) ∙ ap (λ (i : ℕ). get_or (flipped bs byte bit) i 0) (sym here)
          | inr other ↦
              let apart : a + k ≢ a + byte = omega arith in
              get_or-set_other w (a + byte) (a + k) _ 0 apart ∙ stood k h ∙ sym (get_or-set_other bs byte k _ 0 other)
        ]
