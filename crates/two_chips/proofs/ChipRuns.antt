-- The laws of runs that are written to two chips and read from them.
use Rattle.std.proofs.Common.{◌≡◌, ℕ, zero, suc, ◌+◌, ◌*◌, ◌-◌, ◌/◌, ◌%◌, ◌<◌, ◌≤◌, ◌==◌, min, Bool, true, false, not, List, [], ◌∷◌, length, get_or, set, take, drop, refl, ap, ◌∙◌, sym, inl, inr, add-one, arith}
use Rattle.std.proofs.lemmas.Bool.{cases_lt}
use Rattle.std.proofs.lemmas.List.{length-set, get_or-take, get_or-drop, length-take-le}
use Rattle.bank.specs.Runs.{write_run}
use borrow.Rule.Slice.PartMut.{put_mid}
use Rattle.bank.proofs.RunLaws.{write_run-put_mid}
use Rattle.two_chips.specs.Chips.{Chips, bytes_of, put, put_run, size}
use Rattle.two_chips.specs.Pairs.{every_other}
use Rattle.two_chips.proofs.PairLaws.{begin, begin_not, get_or-every_other, length-every_other}
use Rattle.two_chips.proofs.ChipLaws.{byte_even, byte_odd, bytes_of-put, get_or-bytes_of, put_inside, put_past, same_chips, set_even, set_odd, size-put}

-- what is written to the chips is what is written to the list of bytes
pub bytes_of-put_run : (c : Chips) (a : ℕ) (bs : List ℕ) → bytes_of (put_run c a bs) ≡ write_run (bytes_of c) a bs
unfolding put_run write_run
bytes_of-put_run c a [] = refl
bytes_of-put_run c a (b ∷ bs) = bytes_of-put_run (put c a b) (suc a) bs ∙ ap (λ (l : List ℕ). write_run l (suc a) bs) (bytes_of-put c a b)

-- a run of one byte
pub put_run_one : (c : Chips) (a : ℕ) (bs : List ℕ) → length bs ≡ 1 → put c a (get_or bs 0 0) ≡ put_run c a bs
unfolding put_run
put_run_one c a [] one = cc
put_run_one c a (b ∷ []) one = refl
put_run_one c a (b ∷ x ∷ bs) one = absurd (omega (arith, one))

-- of a run only what lies inside is written
put_run_past : (c : Chips) (a : ℕ) (bs : List ℕ) → size c ≤ a → put_run c a bs ≡ c
unfolding put_run
put_run_past c a [] h = refl
put_run_past c a (b ∷ bs) h = rw (put_past c a b h) (put_run_past c (suc a) bs (omega arith))

put_run_cut : (c : Chips) (a n : ℕ) (bs : List ℕ) → (n < length bs → size c ≤ a + n) → put_run c a (take n bs) ≡ put_run c a bs
unfolding put_run
put_run_cut c a zero [] h = refl
put_run_cut c a (suc n) [] h = refl
put_run_cut c a zero (b ∷ bs) h = sym (put_run_past c a (b ∷ bs) (omega (arith, h (omega arith))))
put_run_cut c a (suc n) (b ∷ bs) h = put_run_cut (put c a b) (suc a) n bs (λ less. omega (arith, size-put c a b, h (omega arith)))

-- a run that lies inside goes to the chips in turn: the bytes of even addresses to the first, those of odd ones to the second
put_run_interleaved : (c : Chips) (a : ℕ) (bs : List ℕ) → a + length bs ≤ size c → put_run c a bs ≡ record { first = write_run c.first ((a + 1) / 2) (every_other (a % 2 == 0) bs); second = write_run c.second (a / 2) (every_other (not (a % 2 == 0)) bs) }
unfolding put_run write_run every_other
put_run_interleaved c a [] h = refl
put_run_interleaved c a (b ∷ bs) h =
    elim (cases_lt (a % 2) 1) [
      | inl less ↦
          let even : a % 2 ≡ 0 = omega arith in
          let odd : suc a % 2 ≡ 1 = omega arith in
          let up : (a + 1) / 2 ≡ a / 2 = omega arith in
          let next : (suc a + 1) / 2 ≡ suc (a / 2) = omega arith in
          let half : suc a / 2 ≡ a / 2 = omega arith in
          ap (λ (d : Chips). put_run d (suc a) bs) (put_inside c a b (omega arith) ∙ set_even c a b even)
          ∙ rw (even, up) (rw (odd, next, half) at (put_run_interleaved (record c { first = set c.first (a / 2) b }) (suc a) bs (omega (arith, length-set c.first (a / 2) b))))
      | inr more ↦
          let odd : a % 2 ≡ 1 = omega arith in
          let even : suc a % 2 ≡ 0 = omega arith in
          let up : (a + 1) / 2 ≡ suc (a / 2) = omega arith in
          let next : (suc a + 1) / 2 ≡ suc (a / 2) = omega arith in
          let half : suc a / 2 ≡ suc (a / 2) = omega arith in
          ap (λ (d : Chips). put_run d (suc a) bs) (put_inside c a b (omega arith) ∙ set_odd c a b odd)
          ∙ rw (odd, up) (rw (even, next, half) at (put_run_interleaved (record c { second = set c.second (a / 2) b }) (suc a) bs (omega (arith, length-set c.second (a / 2) b))))
    ]

-- A run from an address on begins inside the chips at f, at its address or at the end, and ends at t. Of the first chip it is the places from u to v, and b says whether it begins there.
module _ (c : Chips) (a n f t u v : ℕ) (b : Bool) (from : f ≡ min a (size c)) (to : t ≡ f + min n (size c - f)) (up : u ≡ (f + 1) / 2) (up_to : v ≡ (t + 1) / 2) (turn : f % 2 ≡ begin b) where
  turn_is : (f % 2 == 0) ≡ b
  turn_is = rw turn (by b)
    where
      by : (b : Bool) → (begin b == 0) ≡ b
      by true = refl
      by false = refl

  module _ (bs : List ℕ) (long : length bs ≡ n) where
    part : List ℕ
    part = take (t - f) bs

    length-part : length part ≡ t - f
    unfolding part
    length-part = length-take-le (t - f) bs (omega arith)

    same_run : put_run c f part ≡ put_run c a bs
    unfolding part
    same_run =
        elim (cases_lt a (size c)) [
          | inl less ↦ let same : f ≡ a = omega arith in rw same (put_run_cut c a (t - a) bs (λ short. omega arith))
          | inr past ↦ put_run_past c f (take (t - f) bs) (omega arith) ∙ sym (put_run_past c a bs past)
        ]

    length-turn : (d : Bool) → length (every_other d part) ≡ (t - f + 1 - begin d) / 2
    length-turn d = length-every_other d part ∙ rw length-part refl

    -- what is written to the chips
    pub written : (xs ys : List ℕ) → xs ≡ every_other b (take (t - f) bs) → ys ≡ every_other (not b) (take (t - f) bs) → record { first = put_mid u (v - u) c.first xs; second = put_mid (f / 2) (t / 2 - f / 2) c.second ys } ≡ put_run c a bs
    unfolding part
    written xs ys x y =
        same_chips _ (record { first = write_run c.first u xs; second = write_run c.second (f / 2) ys })
        (write_run-put_mid c.first u xs (v - u) (ap length x ∙ length-turn b ∙ omega arith) (omega arith))
        (write_run-put_mid c.second (f / 2) ys (t / 2 - f / 2) (ap length y ∙ length-turn (not b) ∙ omega (arith, begin_not b)) (omega arith))
        ∙ rw (x, y, up) (sym (rw turn_is at (put_run_interleaved c f (take (t - f) bs) (omega (arith, length-part)))))
        ∙ same_run

  -- what is read from them
  pub found : (known : List ℕ) → length known ≡ t - f → every_other b known ≡ take (v - u) (drop u c.first) → every_other (not b) known ≡ take (t / 2 - f / 2) (drop (f / 2) c.second) → (i : ℕ) → i < t - f → get_or known i 0 ≡ get_or (bytes_of c) (a + i) 0
  found known long x y i less =
      let inside : f ≡ a = omega arith in
      sym (get_or-bytes_of c (a + i) (omega arith) ∙ elim (cases_lt ((a + i) % 2) 1) [
        | inl even ↦ byte_even c (a + i) (omega arith) ∙ sym (taken b c.first u (v - u) x ((a + i) / 2) i (omega arith) (omega arith) (omega arith))
        | inr odd ↦ byte_odd c (a + i) (omega arith) ∙ sym (taken (not b) c.second (f / 2) (t / 2 - f / 2) y ((a + i) / 2) i (omega arith) (omega arith) (omega (arith, begin_not b)))
      ])
    where
      taken : (d : Bool) (chip : List ℕ) (w m : ℕ) → every_other d known ≡ take m (drop w chip) → (j i : ℕ) → w ≤ j → j - w < m → i ≡ 2 * (j - w) + begin d → get_or known i 0 ≡ get_or chip j 0
      taken d chip w m e j i low high place =
          rw place (sym (get_or-every_other d known (j - w) 0)) ∙ ap (λ (l : List ℕ). get_or l (j - w) 0) e
          ∙ get_or-take m (drop w chip) (j - w) 0 high ∙ get_or-drop w chip (j - w) 0 ∙ ap (λ (k : ℕ). get_or chip k 0) (omega arith)

-- four bytes that are written inside, i and j being their places
module _ (c : Chips) (a i j : ℕ) (w x y z : ℕ) (inside : a + 4 ≤ size c) (up : i ≡ (a + 1) / 2) (down : j ≡ a / 2) where
  pub four_from_first : a % 2 ≡ 0 → record { first = set (set c.first i w) (i + 1) y; second = set (set c.second j x) (j + 1) z } ≡ put_run c a (w ∷ x ∷ y ∷ z ∷ [])
  unfolding every_other write_run
  four_from_first even =
      let turns = rw even at (put_run_interleaved c a (w ∷ x ∷ y ∷ z ∷ []) inside) in
      rw (up, down, add-one ((a + 1) / 2), add-one (a / 2)) (sym turns)

  pub four_from_second : a % 2 ≡ 1 → record { first = set (set c.first i x) (i + 1) z; second = set (set c.second j w) (j + 1) y } ≡ put_run c a (w ∷ x ∷ y ∷ z ∷ [])
  unfolding every_other write_run
  four_from_second odd =
      let turns = rw odd at (put_run_interleaved c a (w ∷ x ∷ y ∷ z ∷ []) inside) in
      rw (up, down, add-one ((a + 1) / 2), add-one (a / 2)) (sym turns)
