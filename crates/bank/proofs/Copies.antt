-- Runs, words and single bytes of units in lent memory. Of a run, f is where it begins inside the bank, and k how many of it lie there.
use Rattle.std.proofs.Common.{append-nil, ◌≡◌, ℕ, ◌+◌, ◌-◌, ◌<◌, ◌≤◌, min, List, [], ◌∷◌, ◌++◌, length, map, set, get_or, take, drop, replicate, sym, refl, ap, ◌∙◌, arith}
use borrow.Rule.Slice.PartMut.{put_mid}
use Rattle.std.proofs.lemmas.List.{length-take-le, length-drop, length-map, take-map, get_or-take, get_or-drop}
use Rattle.bank.specs.Runs.{read_run, write_run}
use Rattle.bank.specs.Units.{used, unused}
use Rattle.bank.proofs.Meanings.{length-bytes_of, bytes_of-part, bytes_of-write_run}
use Rattle.bank.proofs.RunLaws.{write_run-put_mid, write_run_cut, filled_run}
use Rattle.bank.proofs.UnitLaws.{length-used, write_run-used, write_run-unused}

module _ (X : Type 0) (m us : List X) (a size f k j : ℕ) (s : size ≡ min (length m) 65536) (e : f ≡ min a size) (g : k ≡ min (length us) (size - f)) (same : j ≡ k) where
  length_size : length (used m) ≡ size
  length_size = length-used m ∙ sym s

  written : (ys : List X) → ys ≡ take k us → put_mid f j m ys ≡ write_run m f (take k us)
  written ys y =
      let short : length (take k us) ≡ j = length-take-le k us (omega arith) ∙ sym same in
      ap (put_mid f j m) y ∙ write_run-put_mid m f (take k us) j short (omega arith)

  few : length (take k us) ≤ 65536 - f
  few = omega (arith, length-take-le k us (omega arith))

  pub copied_in : (ys : List X) → ys ≡ take k us → used (put_mid f j m ys) ≡ write_run (used m) a us
  copied_in ys y = ap used (written ys y) ∙ write_run-used m f (take k us) few ∙ write_run_cut (used m) a us f k (rw length_size e) (rw length_size g)

  pub copied_beside : (ys : List X) → ys ≡ take k us → unused (put_mid f j m ys) ≡ unused m
  copied_beside ys y = ap unused (written ys y) ∙ write_run-unused m f (take k us) few

-- the same of bytes that become units
module _ (X : Type 0) (byte_of : X → ℕ) (unit_of : ℕ → X) (back : (b : ℕ) → b < 256 → byte_of (unit_of b) ≡ b) (bytes_of : List X → List ℕ) (bytes_each : (us : List X) → bytes_of us ≡ map byte_of us) (units_of : List ℕ → List X) (units_each : (bs : List ℕ) → units_of bs ≡ map unit_of bs) (m : List X) (bs : List ℕ) (small : (i : ℕ) → get_or bs i 0 < 256) (a size f k j : ℕ) (s : size ≡ min (length m) 65536) (e : f ≡ min a size) (g : k ≡ min (length bs) (size - f)) (same : j ≡ k) (ys : List X) (y : ys ≡ units_of (take k bs)) where
  all_in : k ≡ min (length (map unit_of bs)) (size - f)
  all_in = rw length-map g

  part : ys ≡ take k (map unit_of bs)
  part = y ∙ units_each (take k bs) ∙ sym (take-map unit_of k bs)

  pub encoded_in : used (put_mid f j m ys) ≡ write_run (used m) a (units_of bs)
  encoded_in = rw (units_each bs) (copied_in X m (map unit_of bs) a size f k j s e all_in same ys part)

  pub encoded_means : bytes_of (used (put_mid f j m ys)) ≡ write_run (bytes_of (used m)) a bs
  encoded_means = ap bytes_of (copied_in X m (map unit_of bs) a size f k j s e all_in same ys part) ∙ bytes_of-write_run X byte_of unit_of back bytes_of bytes_each (used m) a bs small

  pub encoded_beside : unused (put_mid f j m ys) ≡ unused m
  encoded_beside = copied_beside X m (map unit_of bs) a size f k j s e all_in same ys part

-- the k bytes that lie inside, copied, and zeros behind them
pub copied_out : (l : List ℕ) (a n f k : ℕ) → f ≡ min a (length l) → k ≡ min n (length l - f) → (known zeros : List ℕ) → known ≡ take k (drop f l) → zeros ≡ replicate (n - k) 0 → known ++ zeros ≡ read_run l a n
copied_out l a n f k e g known zeros h z = filled_run l a n k known zeros (omega arith) short each z
  where
    short : length known ≡ k
    short = ap length h ∙ length-take-le k (drop f l) (simp length-drop (omega arith))

    each : (i : ℕ) → i < k → get_or known i 0 ≡ get_or l (a + i) 0
    each i less =
        let same : f ≡ a = omega arith in
        ap (λ (xs : List ℕ). get_or xs i 0) h ∙ get_or-take k (drop f l) i 0 less ∙ get_or-drop f l i 0 ∙ ap (λ (j : ℕ). get_or l (j + i) 0) same

-- the same of units that mean bytes, the bounds counted in units
module _ (X : Type 0) (byte_of : X → ℕ) (unit_of : ℕ → X) (back : (b : ℕ) → b < 256 → byte_of (unit_of b) ≡ b) (bytes_of : List X → List ℕ) (bytes_each : (us : List X) → bytes_of us ≡ map byte_of us) (us : List X) (a n f k : ℕ) (e : f ≡ min a (length us)) (g : k ≡ min n (length us - f)) where
  long : length (bytes_of us) ≡ length us
  long = length-bytes_of X byte_of unit_of back bytes_of bytes_each us

  pub decoded_out : (known zeros : List ℕ) → known ≡ bytes_of (take (f + k - f) (drop f us)) → zeros ≡ replicate (n - k) 0 → known ++ zeros ≡ read_run (bytes_of us) a n
  decoded_out known zeros h z =
      let run : f + k - f ≡ k = omega arith in
      let head : known ≡ take k (drop f (bytes_of us)) = h ∙ rw run (bytes_of-part X byte_of unit_of back bytes_of bytes_each us f k) in
      copied_out (bytes_of us) a n f k (rw long e) (rw long g) known zeros head z

  -- all of the run lies inside
  pub decoded_whole : k ≡ n → (known : List ℕ) → known ≡ bytes_of (take (f + n - f) (drop f us)) → known ≡ read_run (bytes_of us) a n
  decoded_whole all known h =
      let none : replicate {A = ℕ} (n - k) 0 ≡ [] = ap (λ (i : ℕ). replicate {A = ℕ} i 0) nothing in
      sym (append-nil known) ∙ decoded_out known [] (rw all h) (sym none)
    where
      nothing : n - k ≡ 0
      nothing = omega arith

-- a buffer of one byte
pub one_out : (l : List ℕ) (a : ℕ) (out : List ℕ) (b : ℕ) → length out ≡ 1 → b ≡ get_or l a 0 → set out 0 b ≡ read_run l a (length out)
unfolding read_run
one_out l a [] b long e = cc
one_out l a (x ∷ []) b long e = ap (λ (y : ℕ). y ∷ []) e
one_out l a (x ∷ y ∷ out) b long e = absurd (omega (arith, long))

-- a list of four, all of whose places are set
pub four_set : {X : Type 0} (us : List X) (u v w x : X) → length us ≡ 4 → set (set (set (set us 0 u) 1 v) 2 w) 3 x ≡ u ∷ v ∷ w ∷ x ∷ []
four_set [] u v w x long = cc
four_set (a ∷ []) u v w x long = absurd (omega (arith, long))
four_set (a ∷ b ∷ []) u v w x long = absurd (omega (arith, long))
four_set (a ∷ b ∷ c ∷ []) u v w x long = absurd (omega (arith, long))
four_set (a ∷ b ∷ c ∷ d ∷ []) u v w x long = refl
four_set (a ∷ b ∷ c ∷ d ∷ e ∷ us) u v w x long = absurd (omega (arith, long))
