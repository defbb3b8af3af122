-- Vectors of bytes, interleaved and deinterleaved.
use Rattle.std.proofs.Common.{◌≡◌, ℕ, zero, suc, ◌+◌, ◌-◌, ◌*◌, ◌/◌, ◌%◌, ◌<◌, true, false, List, [], ◌∷◌, ◌++◌, length, get_or, take, refl, ap, ◌∙◌, sym, inl, inr, lit<, arith}
use Rattle.std.specs.List.{range_with_len}
use Rattle.std.specs.Simd.Lanes.{Each1, chunk, digits_l, number_l, pick_l, put_chunk}
use Rattle.std.proofs.Math.Seq.{drop-append_seam}
use Rattle.std.proofs.lemmas.Bool.{cases_lt}
use Rattle.std.proofs.lemmas.List.{get_or_append_left, get_or-append_right, length-append, take-append-le, take_all}
use Rattle.std.proofs.lemmas.List.FromFn.{get_or-map-range_with_len}
use Rattle.std.proofs.lemmas.Simd.{Each1-chunk, get_or_wider, length-chunk, length-put_chunk, pick_l-range_with_len, put_chunk_whole, take_more_put_chunk}
use Rattle.two_chips.specs.Pairs.{Interleaved, every_other}
use Rattle.two_chips.proofs.PairLaws.{get_or-every_other}

-- a lane of 64 bits has a number below this
abbrev pub two_to_64 : ℕ
two_to_64 = 18446744073709551616

-- the lanes of two vectors, one behind the other, interleaved
abbrev pub low_half : List ℕ
low_half = 0 ∷ 16 ∷ 1 ∷ 17 ∷ 2 ∷ 18 ∷ 3 ∷ 19 ∷ 4 ∷ 20 ∷ 5 ∷ 21 ∷ 6 ∷ 22 ∷ 7 ∷ 23 ∷ []

abbrev pub high_half : List ℕ
high_half = 8 ∷ 24 ∷ 9 ∷ 25 ∷ 10 ∷ 26 ∷ 11 ∷ 27 ∷ 12 ∷ 28 ∷ 13 ∷ 29 ∷ 14 ∷ 30 ∷ 15 ∷ 31 ∷ []

module _ (lead follow run : List ℕ) (lead_long : length lead ≡ 16) (follow_long : length follow ≡ 16) (run_long : length run ≡ 32) where
  -- the run after both vectors have been stored
  abbrev pub stored : List ℕ
  stored = put_chunk 16 (put_chunk 0 run (pick_l 0 (take 16 lead ++ take 16 follow) low_half)) (pick_l 0 (take 16 lead ++ take 16 follow) high_half)

  lanes : List ℕ → List ℕ
  lanes ks = pick_l 0 (lead ++ follow) ks

  joined : put_chunk 16 (put_chunk 0 run (lanes low_half)) (lanes high_half) ≡ lanes (low_half ++ high_half)
  unfolding lanes
  joined =
      sym (take_all 32 (put_chunk 16 (put_chunk 0 run (lanes low_half)) (lanes high_half)) (omega (arith, length-put_chunk 16 (put_chunk 0 run (lanes low_half)) (lanes high_half), length-put_chunk 0 run (lanes low_half))))
      ∙ take_more_put_chunk 16 (put_chunk 0 run (lanes low_half)) (lanes high_half) 32 refl (omega (arith, length-put_chunk 0 run (lanes low_half)))
      ∙ ap (λ (l : List ℕ). l ++ lanes high_half) (take_more_put_chunk 0 run (lanes low_half) 16 refl (omega arith))

  front : lanes (range_with_len 0 16) ≡ lead
  unfolding lanes
  front = pick_l-range_with_len 0 (lead ++ follow) 0 16 (omega (arith, length-append lead follow)) ∙ take-append-le 16 lead follow (omega arith) ∙ take_all 16 lead (omega arith)

  back : lanes (range_with_len 16 16) ≡ follow
  unfolding lanes
  back =
      pick_l-range_with_len 0 (lead ++ follow) 16 16 (omega (arith, length-append lead follow))
      ∙ ap (take 16) (rw lead_long at (drop-append_seam lead follow)) ∙ take_all 16 follow (omega arith)

  joined_lead : every_other true stored ≡ lead
  unfolding every_other lanes
  joined_lead = rw (take_all 16 lead (omega arith), take_all 16 follow (omega arith)) (ap (every_other true) joined ∙ front)

  joined_follow : every_other false stored ≡ follow
  unfolding every_other lanes
  joined_follow = rw (take_all 16 lead (omega arith), take_all 16 follow (omega arith)) (ap (every_other false) joined ∙ back)

  pub laid : Interleaved 16 lead follow stored
  laid i less = (
    ap (λ (l : List ℕ). get_or l i 0) (sym joined_lead) ∙ get_or-every_other true _ i 0 ∙ ap (λ (k : ℕ). get_or stored k 0) (omega arith),
    ap (λ (l : List ℕ). get_or l i 0) (sym joined_follow) ∙ get_or-every_other false _ i 0,
  )

-- bytes come back from the number that they make
bytes_back : (n : ℕ) (zs : List ℕ) → length zs ≡ n → Each1 (λ (x : ℕ). x < 256) zs → digits_l 256 n (number_l 256 zs) ≡ zs
bytes_back zero [] e h = refl
bytes_back zero (z ∷ zs) e h = cc
bytes_back (suc n) [] e h = cc
bytes_back (suc n) (z ∷ zs) e h =
    let small : z < 256 = h.0 in
    let low : (z + 256 * number_l 256 zs) % 256 ≡ z = omega arith in
    let high : (z + 256 * number_l 256 zs) / 256 ≡ number_l 256 zs = omega arith in
    rw (low, high) (ap (λ (l : List ℕ). z ∷ l) (bytes_back n zs (omega (arith, e)) h.1))

-- a half of sixteen bytes, taken as a number of 64 bits
half : (ys : List ℕ) (j : ℕ) → length ys ≡ 16 → Each1 (λ (x : ℕ). x < 256) ys → j < 2 → digits_l 256 8 (number_l two_to_64 (get_or (digits_l two_to_64 2 (number_l 256 ys)) j 0 ∷ [])) ≡ chunk (8 * j) 8 ys
half ys j long small less =
    let lane = get_or_wider 256 8 two_to_64 2 ys j refl small less in
    let one : number_l two_to_64 (number_l 256 (chunk (8 * j) 8 ys) ∷ []) ≡ number_l 256 (chunk (8 * j) 8 ys) = omega arith in
    rw (lane, one) (bytes_back 8 (chunk (8 * j) 8 ys) (length-chunk (8 * j) 8 ys (omega arith)) (Each1-chunk (λ (x : ℕ). x < 256) (8 * j) 8 ys small))

-- the lanes of a vector, those at even places and then the others
abbrev pub by_turns : List ℕ
by_turns = 0 ∷ 2 ∷ 4 ∷ 6 ∷ 8 ∷ 10 ∷ 12 ∷ 14 ∷ 1 ∷ 3 ∷ 5 ∷ 7 ∷ 9 ∷ 11 ∷ 13 ∷ 15 ∷ []

module _ (lead follow run : List ℕ) (small : (i : ℕ) → get_or run i 0 < 256) (run_long : length run ≡ 16) (lead_long : length lead ≡ 8) (follow_long : length follow ≡ 8) where
  lanes_of : List ℕ
  lanes_of = pick_l 0 (run ++ run) by_turns

  each_small : Each1 (λ (x : ℕ). x < 256) lanes_of
  unfolding lanes_of
  each_small = picked by_turns
    where
      below : (k : ℕ) → get_or (run ++ run) k 0 < 256
      below k =
          elim (cases_lt k 16) [
            | inl less ↦ rw (get_or_append_left run run 0 k (omega arith)) (small k)
            | inr past ↦ rw (get_or-append_right run run 16 k 0 run_long past) (small (k - 16))
          ]

      picked : (ks : List ℕ) → Each1 (λ (x : ℕ). x < 256) (pick_l 0 (run ++ run) ks)
      picked [] = tt
      picked (k ∷ ks) = (below k, picked ks)

  lanes_long : length lanes_of ≡ 16
  unfolding lanes_of
  lanes_long = refl

  -- the lanes of one half, as a number and as bytes again
  bytes_of_half : ℕ → List ℕ
  bytes_of_half j = digits_l 256 8 (number_l two_to_64 (get_or (digits_l two_to_64 2 (number_l 256 lanes_of)) j 0 ∷ []))

  of_half : (j : ℕ) (to : List ℕ) → length to ≡ 8 → j < 2 → put_chunk 0 to (bytes_of_half j) ≡ chunk (8 * j) 8 lanes_of
  unfolding bytes_of_half
  of_half j to room less =
      let bytes = half lanes_of j lanes_long each_small less in
      put_chunk_whole to (bytes_of_half j) (room ∙ sym (ap length bytes ∙ length-chunk (8 * j) 8 lanes_of (omega (arith, lanes_long)))) ∙ bytes

  pub taken : Interleaved 8 (put_chunk 0 lead (digits_l 256 8 (number_l two_to_64 (get_or (digits_l two_to_64 2 (number_l 256 (pick_l 0 (take 16 run ++ take 16 run) by_turns))) 0 0 ∷ [])))) (put_chunk 0 follow (digits_l 256 8 (number_l two_to_64 (get_or (digits_l two_to_64 2 (number_l 256 (pick_l 0 (take 16 run ++ take 16 run) by_turns))) 1 0 ∷ [])))) run
  unfolding bytes_of_half lanes_of
  taken i less =
      rw (take_all 16 run (omega arith)) (
        ap (λ (l : List ℕ). get_or l i 0) (of_half 0 lead lead_long (lit< tt)) ∙ get_or-map-range_with_len (λ (k : ℕ). get_or (run ++ run) (2 * k) 0) 0 8 i i 0 less (omega arith)
            ∙ get_or_append_left run run 0 (2 * i) (omega arith),
        ap (λ (l : List ℕ). get_or l i 0) (of_half 1 follow follow_long (lit< tt)) ∙ get_or-map-range_with_len (λ (k : ℕ). get_or (run ++ run) (2 * k + 1) 0) 0 8 i i 0 less (omega arith)
            ∙ get_or_append_left run run 0 (2 * i + 1) (omega arith),
      )
