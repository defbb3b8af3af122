-- The laws of reading and writing a run of bytes.
use Rattle.std.proofs.Common.{append-nil, ◌≡◌, ℕ, zero, suc, ◌+◌, ◌-◌, ◌<◌, ◌≤◌, min, ◌≢◌, List, [], ◌∷◌, ◌++◌, length, get_or, take, drop, set, replicate, sym, refl, ap, ◌∙◌, inl, inr, le_of_suc-le-suc, not-suc-le-zero, add-zero, add-suc, suc-add, zero-add, add-one, arith}
use borrow.Rule.Slice.PartMut.{put_mid}
use Rattle.std.proofs.lemmas.List.{length-set, get_or-set_same, get_or-set_other, set_past, get_or_past, same_lists, get_or_default, take_more, take-append-drop, drop_all, length-take-le, length-append, length-replicate, append_assoc, drop-drop, drop-set-lt, take_more_set, get_or_append_left, get_or-append_right, get_or-replicate, replicate_more, take-replicate}
use Rattle.std.proofs.lemmas.Bool.{cases_lt}
use Rattle.bank.specs.Runs.{read_run, write_run}

pub length-read_run : (l : List ℕ) (a n : ℕ) → length (read_run l a n) ≡ n
unfolding read_run
length-read_run l a zero = refl
length-read_run l a (suc n) = ap suc (length-read_run l (suc a) n)

pub get_or-read_run : (l : List ℕ) (a n k : ℕ) → k < n → get_or (read_run l a n) k 0 ≡ get_or l (a + k) 0
unfolding read_run
get_or-read_run l a zero k h = absurd (not-suc-le-zero h)
get_or-read_run l a (suc n) zero h = rw add-zero
get_or-read_run l a (suc n) (suc k) h = get_or-read_run l (suc a) n k (le_of_suc-le-suc h) ∙ ap (λ (m : ℕ). get_or l m 0) (suc-add a k ∙ sym (add-suc a k))

-- a buffer that holds the byte of each address is the run
pub is_read_run : (l : List ℕ) (a : ℕ) (out : List ℕ) → ((k : ℕ) → k < length out → get_or out k 0 ≡ get_or l (a + k) 0) → out ≡ read_run l a (length out)
is_read_run l a out each =
    same_lists out (read_run l a (length out)) (sym (length-read_run l a (length out)))
    λ k d h. get_or_default out k d 0 h ∙ each k h ∙ sym (get_or-read_run l a (length out) k h) ∙ get_or_default (read_run l a (length out)) k 0 d (rw length-read_run h)

pub length-write_run : {X : Type 0} (l : List X) (a : ℕ) (bs : List X) → length (write_run l a bs) ≡ length l
unfolding write_run
length-write_run l a [] = refl
length-write_run l a (b ∷ bs) = length-write_run (set l a b) (suc a) bs ∙ length-set l a b

-- what lies before the run, or behind it, is as it was
pub get_or-write_run_before : (l : List ℕ) (a : ℕ) (bs : List ℕ) (k : ℕ) → k < a → get_or (write_run l a bs) k 0 ≡ get_or l k 0
unfolding write_run
get_or-write_run_before l a [] k h = refl
get_or-write_run_before l a (b ∷ bs) k h =
    let ne : k ≢ a = omega arith in
    get_or-write_run_before (set l a b) (suc a) bs k (omega arith) ∙ get_or-set_other l a k b 0 ne

pub get_or-write_run_behind : (l : List ℕ) (a : ℕ) (bs : List ℕ) (k : ℕ) → a + length bs ≤ k → get_or (write_run l a bs) k 0 ≡ get_or l k 0
unfolding write_run
get_or-write_run_behind l a [] k h = refl
get_or-write_run_behind l a (b ∷ bs) k h =
    let ne : k ≢ a = omega arith in
    get_or-write_run_behind (set l a b) (suc a) bs k (omega arith) ∙ get_or-set_other l a k b 0 ne

-- and inside it stands what was written
pub get_or-write_run_inside : (l : List ℕ) (a : ℕ) (bs : List ℕ) (k : ℕ) → k < length bs → a + k < length l → get_or (write_run l a bs) (a + k) 0 ≡ get_or bs k 0
unfolding write_run
get_or-write_run_inside l a [] k h i = absurd (not-suc-le-zero h)
get_or-write_run_inside l a (b ∷ bs) zero h i =
    let here : a < length l = omega arith in
    rw add-zero (get_or-write_run_before (set l a b) (suc a) bs a (omega arith) ∙ get_or-set_same l a b 0 here)
get_or-write_run_inside l a (b ∷ bs) (suc k) h i =
    let there : suc a + k < length (set l a b) = rw length-set (omega arith) in
    let same : a + suc k ≡ suc a + k = omega arith in
    rw same (get_or-write_run_inside (set l a b) (suc a) bs k (le_of_suc-le-suc h) there)

-- a run that begins at or beyond the end writes nothing
pub write_run_past : {X : Type 0} (l : List X) (a : ℕ) (bs : List X) → length l ≤ a → write_run l a bs ≡ l
unfolding write_run
write_run_past l a [] h = refl
write_run_past l a (b ∷ bs) h = rw (set_past l a b h) (write_run_past l (suc a) bs (omega arith))

pub write_run-append : {X : Type 0} (l : List X) (a : ℕ) (bs cs : List X) → write_run l a (bs ++ cs) ≡ write_run (write_run l a bs) (a + length bs) cs
unfolding write_run
write_run-append l a [] cs = rw add-zero
write_run-append l a (b ∷ bs) cs = write_run-append (set l a b) (suc a) bs cs ∙ ap (λ (m : ℕ). write_run (write_run (set l a b) (suc a) bs) m cs) (omega arith)

pub write_run_one : {X : Type 0} (l : List X) (a : ℕ) (b : X) → write_run l a (b ∷ []) ≡ set l a b
unfolding write_run
write_run_one l a b = refl

pub write_run_none : {X : Type 0} (l : List X) (a : ℕ) → write_run l a [] ≡ l
unfolding write_run
write_run_none l a = refl

-- one byte more of a run
pub write_run_more : (l : List ℕ) (a : ℕ) (bs : List ℕ) (i : ℕ) → i < length bs → write_run l a (take (i + 1) bs) ≡ set (write_run l a (take i bs)) (a + i) (get_or bs i 0)
write_run_more l a bs i h =
    let short : length (take i bs) ≡ i = length-take-le i bs (omega arith) in
    rw (take_more bs i 0 h) (write_run-append l a (take i bs) (get_or bs i 0 ∷ []) ∙ rw short (write_run_one (write_run l a (take i bs)) (a + i) (get_or bs i 0)))

-- of a run only what lies inside is written
pub write_run_inside : {X : Type 0} (l : List X) (a : ℕ) (bs : List X) (n : ℕ) → n ≤ length bs → (n < length bs → length l ≤ a + n) → write_run l a (take n bs) ≡ write_run l a bs
write_run_inside l a bs n h past =
    let short : length (take n bs) ≡ n = length-take-le n bs h in
    let whole : write_run l a bs ≡ write_run (write_run l a (take n bs)) (a + n) (drop n bs) =
    ap (write_run l a) (sym (take-append-drop n bs)) ∙ write_run-append l a (take n bs) (drop n bs) ∙ rw short in
    let rest : write_run (write_run l a (take n bs)) (a + n) (drop n bs) ≡ write_run l a (take n bs) =
    elim (cases_lt n (length bs)) [
      | inl less ↦ write_run_past (write_run l a (take n bs)) (a + n) (drop n bs) (rw length-write_run (past less))
      | inr all ↦ ap (write_run (write_run l a (take n bs)) (a + n)) (drop_all n bs all) ∙ write_run_none (write_run l a (take n bs)) (a + n)
    ] in
    sym (whole ∙ rest)

-- a run that begins at its address or at the end, f, and has the k bytes that lie inside, writes the same
pub write_run_cut : {X : Type 0} (l : List X) (a : ℕ) (bs : List X) (f k : ℕ) → f ≡ min a (length l) → k ≡ min (length bs) (length l - f) → write_run l f (take k bs) ≡ write_run l a bs
write_run_cut l a bs f k e g =
    elim (cases_lt a (length l)) [
      | inl less ↦
          let same : f ≡ a = omega arith in
          rw same (write_run_inside l a bs k (omega arith) (λ short. omega arith))
      | inr past ↦ write_run_past l f (take k bs) (omega arith) ∙ sym (write_run_past l a bs past)
    ]

-- a run that lies inside replaces the middle of the list
put_drop : {X : Type 0} (l : List X) (a : ℕ) (bs : List X) → a + length bs ≤ length l → take a l ++ (bs ++ drop (a + length bs) l) ≡ write_run l a bs
unfolding write_run
put_drop l a [] h = rw add-zero (take-append-drop a l)
put_drop l a (b ∷ bs) h =
    let here : a < length l = omega arith in
    let there : suc a + length bs ≤ length (set l a b) = rw length-set (omega arith) in
    let next : suc a + length bs ≡ a + suc (length bs) = omega arith in
    let past : drop (suc a + length bs) (set l a b) ≡ drop (a + suc (length bs)) l = rw next (drop-set-lt (a + suc (length bs)) l a b (omega arith)) in
    let front : take (suc a) (set l a b) ≡ take a l ++ b ∷ [] = rw (add-one a) at (take_more_set l a b here) in
    let back = put_drop (set l a b) (suc a) bs there in
    sym (append_assoc (take a l) (b ∷ []) (bs ++ drop (a + suc (length bs)) l)) ∙ rw (front, past) at back

pub write_run-put_mid : {X : Type 0} (l : List X) (a : ℕ) (bs : List X) (k : ℕ) → length bs ≡ k → a + k ≤ length l → put_mid a k l bs ≡ write_run l a bs
write_run-put_mid l a bs k e h =
    let inside : a + length bs ≤ length l = omega arith in
    let past : drop k (drop a l) ≡ drop (a + length bs) l = rw e (drop-drop k a l) in
    ap (λ r. take a l ++ (bs ++ r)) past ∙ put_drop l a bs inside

-- the k bytes that lie inside, and zeros behind them, are the run
pub filled_run : (l : List ℕ) (a n k : ℕ) (known zeros : List ℕ) → k ≡ min n (length l - min a (length l)) → length known ≡ k → ((i : ℕ) → i < k → get_or known i 0 ≡ get_or l (a + i) 0) → zeros ≡ replicate (n - k) 0 → known ++ zeros ≡ read_run l a n
filled_run l a n k known zeros e long inside z =
    ap (λ (rest : List ℕ). known ++ rest) z ∙ is_read_run l a (known ++ replicate (n - k) 0) each ∙ ap (read_run l a) whole
  where
    whole : length (known ++ replicate (n - k) 0) ≡ n
    whole = simp (length-append, length-replicate) (omega arith)

    each : (i : ℕ) → i < length (known ++ replicate (n - k) 0) → get_or (known ++ replicate (n - k) 0) i 0 ≡ get_or l (a + i) 0
    each i h =
        elim (cases_lt i k) [
          | inl less ↦ get_or_append_left known (replicate (n - k) 0) 0 i (omega arith) ∙ inside i less
          | inr past ↦
              get_or-append_right known (replicate (n - k) 0) k i 0 long past
              ∙ get_or-replicate (n - k) (i - k) 0 0 (omega (arith, whole)) ∙ sym (get_or_past l (a + i) 0 (omega (arith, whole)))
        ]

-- a run over the whole list
pub write_run_whole : {X : Type 0} (l bs : List X) → length l ≡ length bs → write_run l 0 bs ≡ bs
write_run_whole l bs e =
    let none : drop (length bs) l ≡ [] = drop_all (length bs) l (omega arith) in
    sym (put_drop l 0 bs (omega arith)) ∙ rw (zero-add, none, append-nil)

pub read_run_whole : (l : List ℕ) → read_run l 0 (length l) ≡ l
read_run_whole l = sym (is_read_run l 0 l (λ k h. rw zero-add))

-- one zero more
pub zeros_more : (l : List ℕ) (a i : ℕ) → write_run l a (replicate (i + 1) 0) ≡ set (write_run l a (replicate i 0)) (a + i) 0
zeros_more l a i =
    ap (write_run l a) (sym (replicate_more i 0)) ∙ write_run-append l a (replicate i 0) (0 ∷ []) ∙ rw (length-replicate {A = ℕ} i 0) (write_run_one (write_run l a (replicate i 0)) (a + i) 0)

-- of a run of zeros only what lies inside is written
pub zeros_inside : (l : List ℕ) (a k n : ℕ) → k ≤ n → (k < n → length l ≤ a + k) → write_run l a (replicate k 0) ≡ write_run l a (replicate n 0)
zeros_inside l a k n h past =
    let long : length {A = ℕ} (replicate n 0) ≡ n = length-replicate n 0 in
    ap (write_run l a) (sym (take-replicate k n 0 h)) ∙ write_run_inside l a (replicate n 0) k (omega (arith, long)) (λ less. past (omega (arith, long)))
