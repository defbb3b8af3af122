-- Digits, one after the other.
use Rattle.std.proofs.Common.{◌≡◌, ℕ, zero, suc, ◌+◌, ◌-◌, ◌*◌, ◌^◌, ◌<◌, ◌≤◌, true, false, ◌&&◌, leb, ◌⊎◌, List, [], ◌∷◌, ◌++◌, length, get_or, take, Some, None, Ok, Err, Result, sym, refl, inl, inr, arith, pow-add}
use Rattle.std.specs.Result.{OkIff, result_ok}
use Rattle.std.proofs.lemmas.List.{take_more, take_all}
use Rattle.std.proofs.lemmas.Bool.{and_parts, and_from, and_left, and_right, cond-false, leb-true, le-leb, lt-leb}
use Rattle.std.specs.Char.{is_ascii_digit}
use Rattle.std.specs.Str.{all_ascii_digits}
use Rattle.script.specs.Text.{value_from, number_of}

pub value_push : (n : ℕ) (bs : List ℕ) (b : ℕ) → value_from n (bs ++ b ∷ []) ≡ value_from n bs * 10 + (b - 48)
value_push n [] b = refl
value_push n (c ∷ bs) b = value_push (n * 10 + (c - 48)) bs b

pub digits_push : (bs : List ℕ) (b : ℕ) → all_ascii_digits bs ≡ true → is_ascii_digit b ≡ true → all_ascii_digits (bs ++ b ∷ []) ≡ true
digits_push [] b e d = rw d
digits_push (c ∷ bs) b e d =
    let both : (is_ascii_digit c ≡ true) × (all_ascii_digits bs ≡ true) = and_parts (is_ascii_digit c) (all_ascii_digits bs) e in
    and_from (is_ascii_digit c) (all_ascii_digits (bs ++ b ∷ [])) both.0 (digits_push bs b both.1 d)

-- the digits passed, and the number that they write
pub record Read (l : List ℕ) (i n : ℕ) : Type 0 where
  pub digits : all_ascii_digits (take i l) ≡ true
  pub value : n ≡ value_from 0 (take i l)
  pub small : n < 10 ^ i

pub read_more : (l : List ℕ) (i n : ℕ) → Read l i n → i < length l → is_ascii_digit (get_or l i 0) ≡ true → Read l (i + 1) (n * 10 + (get_or l i 0 - 48))
read_more l i n r h d =
    let more = take_more l i 0 h in
    let high : get_or l i 0 ≤ 57 = leb-true (get_or l i 0) 57 (and_parts (leb 48 (get_or l i 0)) (leb (get_or l i 0) 57) d).1 in
    record {
      digits = rw more (digits_push (take i l) (get_or l i 0) r.digits d);
      value = rw (r.value, more) (sym (value_push 0 (take i l) (get_or l i 0)));
      small = omega (arith, pow-add 10 i 1, r.small);
    }

pub not_digits : (l : List ℕ) (i : ℕ) → i < length l → is_ascii_digit (get_or l i 0) ≡ false → all_ascii_digits l ≡ false
not_digits [] i h e = absurd (omega arith)
not_digits (b ∷ l) zero h e = rw e
not_digits (b ∷ l) (suc i) h e = and_right (is_ascii_digit b) (all_ascii_digits l) (not_digits l i (omega arith) e)

-- a text of 1 to 5 digits is its number, or too large
module _ (l : List ℕ) (n : ℕ) (r : Read l (length l) n) (low : 1 ≤ length l) (high : length l ≤ 5) where
  whole : take (length l) l ≡ l
  whole = take_all (length l) l (omega arith)

  pub number_some : n ≤ 65535 → Some n ≡ number_of l
  unfolding number_of
  number_some small =
      let digits : all_ascii_digits l ≡ true = rw whole at r.digits in
      let value : n ≡ value_from 0 l = rw whole at r.value in
      rw (digits, ← value, le-leb 1 (length l) low, le-leb (length l) 5 high, le-leb n 65535 small)

  pub number_large : 65535 < n → None ≡ number_of l
  unfolding number_of
  number_large large =
      let digits : all_ascii_digits l ≡ true = rw whole at r.digits in
      let value : n ≡ value_from 0 l = rw whole at r.value in
      rw (digits, ← value, le-leb 1 (length l) low, le-leb (length l) 5 high, lt-leb n 65535 large)

  pub number_result : {E : Type 0} (r : Result ℕ E) → OkIff r (n < 2 ^ 16) n → result_ok r ≡ number_of l
  number_result (Ok x) fits = rw fits.1 (number_some (omega (arith, fits.0)))
  number_result (Err e) large = number_large (omega (arith, large))

pub number_none : (l : List ℕ) → all_ascii_digits l ≡ false → None ≡ number_of l
unfolding number_of
number_none l e = rw e

pub number_length : (l : List ℕ) → (5 < length l) ⊎ (length l ≡ 0) → None ≡ number_of l
unfolding number_of
number_length l h = sym (cond-false (all_ascii_digits l && leb 1 (length l) && leb (length l) 5 && leb (value_from 0 l) 65535) (Some (value_from 0 l)) None (wrong h))
  where
    wrong : (5 < length l) ⊎ (length l ≡ 0) → (all_ascii_digits l && leb 1 (length l) && leb (length l) 5 && leb (value_from 0 l) 65535) ≡ false
    wrong (inl long) = and_left (all_ascii_digits l && leb 1 (length l) && leb (length l) 5) (leb (value_from 0 l) 65535) (and_right (all_ascii_digits l && leb 1 (length l)) (leb (length l) 5) (lt-leb (length l) 5 long))
    wrong (inr none) =
        and_left (all_ascii_digits l && leb 1 (length l) && leb (length l) 5) (leb (value_from 0 l) 65535)
        (and_left (all_ascii_digits l && leb 1 (length l)) (leb (length l) 5) (and_right (all_ascii_digits l) (leb 1 (length l)) (lt-leb 1 (length l) (omega arith))))
