-- The laws of words in a list of bytes into which a run is written.
use Rattle.std.proofs.Common.{◌≡◌, ◌⊎◌, ℕ, ◌+◌, ◌-◌, ◌<◌, ◌≤◌, List, length, get_or, replicate, ap, ◌∙◌, inl, inr, add-zero, arith}
use Rattle.std.proofs.lemmas.List.{length-replicate, get_or-replicate}
use Rattle.bank.specs.Runs.{write_run}
use Rattle.bank.specs.Words.{word_at, word_bytes}
use Rattle.bank.proofs.RunLaws.{get_or-write_run_inside, get_or-write_run_before, get_or-write_run_behind}

-- four bytes that are the same make the same word
pub same_word : (l m : List ℕ) (a c : ℕ) → ((k : ℕ) → k < 4 → get_or l (a + k) 0 ≡ get_or m (c + k) 0) → word_at l a ≡ word_at m c
unfolding word_at
same_word l m a c same =
    let lowest : get_or l a 0 ≡ get_or m c 0 = simp add-zero at (same 0 (omega arith)) in
    rw (lowest, same 1 (omega arith), same 2 (omega arith), same 3 (omega arith))

-- a word outside a run is as it was
pub word_elsewhere : (l : List ℕ) (a : ℕ) (bs : List ℕ) (b : ℕ) → (b + 4 ≤ a) ⊎ (a + length bs ≤ b) → word_at (write_run l a bs) b ≡ word_at l b
word_elsewhere l a bs b (inl h) = same_word (write_run l a bs) l b b (λ k d. get_or-write_run_before l a bs (b + k) (omega arith))
word_elsewhere l a bs b (inr h) = same_word (write_run l a bs) l b b (λ k d. get_or-write_run_behind l a bs (b + k) (omega arith))

-- and one inside it is one of the run
pub word_inside : (l : List ℕ) (a : ℕ) (bs : List ℕ) (k : ℕ) → k + 4 ≤ length bs → a + length bs ≤ length l → word_at (write_run l a bs) (a + k) ≡ word_at bs k
word_inside l a bs k h i =
    same_word (write_run l a bs) bs (a + k) k
    (λ j d. ap (λ (n : ℕ). get_or (write_run l a bs) n 0) (omega arith) ∙ get_or-write_run_inside l a bs (k + j) (omega arith) (omega arith))

-- a word is what its bytes make
pub word_of_bytes : (w : ℕ) → w < 4294967296 → word_at (word_bytes w) 0 ≡ w
unfolding word_at word_bytes
word_of_bytes w h = omega arith

-- and is read where it was written
pub word_written : (l : List ℕ) (a w : ℕ) → a + 4 ≤ length l → w < 4294967296 → word_at (write_run l a (word_bytes w)) a ≡ w
unfolding word_bytes
word_written l a w h small = rw add-zero at (word_inside l a (word_bytes w) 0 (omega arith) (omega arith)) ∙ word_of_bytes w small

-- zeros make the word 0
pub zero_word : (n k : ℕ) → k + 4 ≤ n → word_at (replicate n 0) k ≡ 0
unfolding word_at
zero_word n k h =
    let zero = λ (i : ℕ) (inside : i < n). get_or-replicate {A = ℕ} n i 0 0 inside in
    rw (zero k (omega arith), zero (k + 1) (omega arith), zero (k + 2) (omega arith), zero (k + 3) (omega arith))

-- and so does a run of them
pub word_cleared : (l : List ℕ) (a n b : ℕ) → a ≤ b → b + 4 ≤ a + n → a + n ≤ length l → word_at (write_run l a (replicate n 0)) b ≡ 0
word_cleared l a n b from to inside =
    let long : length {A = ℕ} (replicate n 0) ≡ n = length-replicate n 0 in
    let k : ℕ = b - a in
    let there : b ≡ a + k = omega arith in
    rw there (word_inside l a (replicate n 0) k (omega (arith, long)) (omega (arith, long)) ∙ zero_word n k (omega arith))
