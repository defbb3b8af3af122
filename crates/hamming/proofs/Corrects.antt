-- The laws of the Hamming code, each by a test that is computed at every byte or at every word.
use Rattle.std.proofs.Common.{◌≡◌, ℕ, ◌+◌, ◌-◌, ◌<◌, ◌≤◌, ◌%◌, Bool, true, cond, ◌&&◌, eqb, ltb, List, length, get_or, sym, refl, ◌∙◌, ap, subst, arith}
use Rattle.std.specs.List.{range_with_len}
use Rattle.std.proofs.lemmas.Bool.{cond-true, eqb-true, ltb-true}
use Rattle.hamming.specs.Code.{every, codes, code_word, corrected, decoded, syndrome, data_bits, turned, gathered, data_positions, even}
use Rattle.hamming.proofs.Computed.{at_each, below}

ends : (p q r s t u : Bool) → (p && q && r && s && t && u) ≡ true → (p ≡ true) × (u ≡ true)
ends p q r s t u e = grind arith

-- a code word carries its byte in twelve bits
carried : (b w : ℕ) → codes b w ≡ true → (gathered w data_positions ≡ b) × (w < 4096)
carried b w t =
    let both = ends (eqb (gathered w data_positions) b) (even 1 w) (even 2 w) (even 4 w) (even 8 w) (ltb w 4096) t in
    (eqb-true (gathered w data_positions) b both.0, ltb-true w 4096 both.1)

-- only the code word of a byte keeps the rule
alone : ℕ → Bool
alone w = cond (codes (gathered w data_positions) w) (eqb w (code_word (gathered w data_positions))) true

all_alone : every (λ _ w. alone w) 0 (range_with_len 0 4096) ≡ true
unfolding alone code_word
all_alone = refl

pub only_word : (b w : ℕ) → codes b w ≡ true → w ≡ code_word b
unfolding alone
only_word b w t =
    let kept : (gathered w data_positions ≡ b) × (w < 4096) = carried b w t in
    let G : ℕ → Type 0 = λ n. cond (codes n w) (eqb w (code_word n)) true ≡ true in
    let at_b : G b = subst G kept.0 (below alone 4096 all_alone w kept.1) in
    eqb-true w (code_word b) (sym (cond-true (codes b w) (eqb w (code_word b)) true t) ∙ at_b)

comes_back : ℕ → Bool
comes_back b = eqb (decoded (code_word b)) b

all_back : every (λ _ b. comes_back b) 0 (range_with_len 0 256) ≡ true
unfolding comes_back code_word syndrome data_bits
all_back = refl

pub word_back : (b : ℕ) → b < 256 → decoded (code_word b) ≡ b
unfolding comes_back
word_back b h = eqb-true (decoded (code_word b)) b (below comes_back 256 all_back b h)

survives : ℕ → ℕ → Bool
survives b k = eqb (decoded (turned (code_word b) (k + 1))) b

survives_each : ℕ → Bool
survives_each b = every (λ _ k. survives b k) 0 (range_with_len 0 16)

all_survive : every (λ _ b. survives_each b) 0 (range_with_len 0 256) ≡ true
unfolding survives_each survives code_word syndrome data_bits
all_survive = refl

pub upset_back : (b k : ℕ) → b < 256 → 1 ≤ k → k ≤ 16 → decoded (turned (code_word b) k) ≡ b
unfolding survives_each survives
upset_back b k h l u =
    let each : survives_each b ≡ true = below survives_each 256 all_survive b h in
    let one : survives b (k - 1) ≡ true = below (survives b) 16 each (k - 1) (omega arith) in
    let same : k - 1 + 1 ≡ k = omega arith in
    eqb-true (decoded (turned (code_word b) k)) b (subst (λ (m : ℕ). eqb (decoded (turned (code_word b) m)) b ≡ true) same one)

-- a table that has at each place what that word reads as has what any word reads as, at its low twelve bits
pub looked_up : (bs : List ℕ) → length bs ≡ 4096 → every (λ w b. eqb (decoded w) b) 0 bs ≡ true → (w : ℕ) → get_or bs (w % 4096) 0 ≡ decoded w
looked_up bs l t w =
    let low : ℕ = w % 4096 in
    let inside : low < length bs = rw l (omega arith) in
    let kept : eqb (decoded low) (get_or bs low 0) ≡ true = at_each (λ w b. eqb (decoded w) b) bs t low inside in
    let same : low % 4096 ≡ low = omega arith in
    sym (eqb-true (decoded low) (get_or bs low 0) kept) ∙ ap (λ (n : ℕ). data_bits (corrected n)) same
