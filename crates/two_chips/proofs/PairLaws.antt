-- The laws of interleaved runs.
use Rattle.std.proofs.Common.{◌≡◌, ℕ, zero, suc, ◌+◌, ◌-◌, ◌*◌, ◌/◌, ◌%◌, ◌==◌, ◌<◌, ◌≤◌, Bool, true, false, not, cond, List, [], ◌∷◌, length, get_or, set, take, drop, replicate, refl, ap, ◌∙◌, sym, inl, inr, add-zero, arith}
use borrow.Rule.Slice.PartMut.{put_mid}
use Rattle.std.proofs.lemmas.Bool.{cases_lt}
use Rattle.std.proofs.lemmas.List.{same_lists, get_or_default, get_or-set_other, get_or-take, get_or-drop}
use Rattle.bank.proofs.RunLaws.{write_run-put_mid, get_or-write_run_before, get_or-write_run_inside}
use Rattle.two_chips.specs.Pairs.{Interleaved, every_other}

-- which place of the run the first byte taken has
abbrev pub begin : Bool → ℕ
begin b = cond b 0 1

pub begin_not : (b : Bool) → begin (not b) ≡ 1 - begin b
begin_not true = refl
begin_not false = refl

-- the byte of an even address is the first of its pair
pub begin_even : (a : ℕ) → a % 2 ≡ begin (a % 2 == 0)
begin_even a =
    elim (cases_lt (a % 2) 1) [
      | inl less ↦ let even : a % 2 ≡ 0 = omega arith in rw even refl
      | inr more ↦ let odd : a % 2 ≡ 1 = omega arith in rw odd refl
    ]

module _ {X : Type 0} where
  pub length-every_other : (b : Bool) (l : List X) → length (every_other b l) ≡ (length l + 1 - begin b) / 2
  unfolding every_other
  length-every_other true [] = omega arith
  length-every_other false [] = omega arith
  length-every_other true (x ∷ xs) = omega (arith, length-every_other false xs)
  length-every_other false (x ∷ xs) = omega (arith, length-every_other true xs)

  pub get_or-every_other : (b : Bool) (l : List X) (i : ℕ) (d : X) → get_or (every_other b l) i d ≡ get_or l (2 * i + begin b) d
  unfolding every_other
  get_or-every_other true [] i d = refl
  get_or-every_other false [] i d = refl
  get_or-every_other true (x ∷ xs) zero d = refl
  get_or-every_other true (x ∷ xs) (suc i) d =
      let next : 2 * suc i + 0 ≡ suc (2 * i + 1) = omega arith in
      rw next (get_or-every_other false xs i d)
  get_or-every_other false (x ∷ xs) i d =
      let next : 2 * i + 1 ≡ suc (2 * i + 0) = omega arith in
      rw next (get_or-every_other true xs i d)

-- a list that has as many bytes, each at its place
is_every_other : (b : Bool) (l ys : List ℕ) → length ys ≡ (length l + 1 - begin b) / 2 → ((i : ℕ) → i < length ys → get_or ys i 0 ≡ get_or l (2 * i + begin b) 0) → ys ≡ every_other b l
is_every_other b l ys long each =
    let same : length ys ≡ length (every_other b l) = long ∙ sym (length-every_other b l) in
    same_lists ys (every_other b l) same
    (λ i d less. get_or_default ys i d 0 less ∙ each i less ∙ sym (get_or-every_other b l i 0) ∙ get_or_default (every_other b l) i 0 d (rw same at less))

-- of zeros, zeros
pub every_other-zeros : (b : Bool) (n : ℕ) → every_other {X = ℕ} b (replicate n 0) ≡ replicate ((n + 1 - begin b) / 2) 0
unfolding every_other
every_other-zeros true zero = refl
every_other-zeros false zero = refl
every_other-zeros true (suc n) =
    let more : (suc n + 1 - 0) / 2 ≡ suc ((n + 1 - 1) / 2) = omega arith in
    rw more (ap (λ (zs : List ℕ). 0 ∷ zs) (every_other-zeros false n))
every_other-zeros false (suc n) =
    let same : (suc n + 1 - 1) / 2 ≡ (n + 1 - 0) / 2 = omega arith in
    rw same (every_other-zeros true n)

module _ (lead follow run : List ℕ) (n : ℕ) (turns : Interleaved n lead follow run) where
  -- all pairs are there
  pub follows : length follow ≡ length run / 2 → length follow ≤ n → follow ≡ every_other false run
  follows long all = is_every_other false run follow (omega (arith, long)) (λ i less. (turns i (omega arith)).1)

  -- and so is the byte behind them, if there is one
  pub leads : length lead ≡ (length run + 1) / 2 → length lead ≤ n + 1 → (n < length lead → get_or lead n 0 ≡ get_or run (2 * n) 0) → lead ≡ every_other true run
  leads long all last = is_every_other true run lead (omega (arith, long)) each
    where
      each : (i : ℕ) → i < length lead → get_or lead i 0 ≡ get_or run (2 * i + 0) 0
      each i less =
          elim (cases_lt i n) [
            | inl before ↦ rw add-zero (turns i before).0
            | inr behind ↦ let same : i ≡ n = omega arith in rw (add-zero, same) (last (omega arith))
          ]

  pub last_of_run : (x : ℕ) → Interleaved n lead follow (set run (2 * n) x)
  last_of_run x i less =
      ((turns i less).0 ∙ sym (get_or-set_other run (2 * n) (2 * i) x 0 (omega arith)), (turns i less).1 ∙ sym (get_or-set_other run (2 * n) (2 * i + 1) x 0 (omega arith)))

  pub last_of_lead : (x : ℕ) → Interleaved n (set lead n x) follow run
  last_of_lead x i less = (get_or-set_other lead n i x 0 (omega arith) ∙ (turns i less).0, (turns i less).1)

-- a list whose middle is replaced
module _ (l bs : List ℕ) (a m : ℕ) (long : length bs ≡ m) (room : a + m ≤ length l) where
  before : (i : ℕ) → i < a → get_or (put_mid a m l bs) i 0 ≡ get_or l i 0
  before i less = rw (write_run-put_mid l a bs m long room) (get_or-write_run_before l a bs i less)

  within : (i j : ℕ) → i ≡ a + j → j < m → get_or (put_mid a m l bs) i 0 ≡ get_or bs j 0
  within i j e less = rw (write_run-put_mid l a bs m long room, e) (get_or-write_run_inside l a bs j (omega arith) (omega arith))

part_of : (l : List ℕ) (a m j i : ℕ) → j < m → i ≡ a + j → get_or (take m (drop a l)) j 0 ≡ get_or l i 0
part_of l a m j i less e = get_or-take m (drop a l) j 0 less ∙ get_or-drop a l j 0 ∙ ap (λ (k : ℕ). get_or l k 0) (sym e)

-- m pairs more, behind p
module _ (lead follow run : List ℕ) (p m q n : ℕ) (from : q ≡ 2 * p) (double : n ≡ 2 * m) (turns : Interleaved p lead follow run) where
  pub more_interleaved : (b : List ℕ) → length b ≡ n → q + n ≤ length run → Interleaved m (take m (drop p lead)) (take m (drop p follow)) b → Interleaved (p + m) lead follow (put_mid q n run b)
  more_interleaved b long room block i less =
      elim (cases_lt i p) [
        | inl old ↦ (
          (turns i old).0 ∙ sym (before run b q n long room (2 * i) (omega arith)),
          (turns i old).1 ∙ sym (before run b q n long room (2 * i + 1) (omega arith)),
        )
        | inr new ↦
            let j : ℕ = i - p in
            let pair = block j (omega arith) in (
              sym (part_of lead p m j i (omega arith) (omega arith)) ∙ pair.0 ∙ sym (within run b q n long room (2 * i) (2 * j) (omega arith) (omega arith)),
              sym (part_of follow p m j i (omega arith) (omega arith)) ∙ pair.1 ∙ sym (within run b q n long room (2 * i + 1) (2 * j + 1) (omega arith) (omega arith)),
            )
      ]

  pub more_deinterleaved : (x y : List ℕ) → length x ≡ m → length y ≡ m → p + m ≤ length lead → p + m ≤ length follow → Interleaved m x y (take n (drop q run)) → Interleaved (p + m) (put_mid p m lead x) (put_mid p m follow y) run
  more_deinterleaved x y x_long y_long room room_too block i less =
      elim (cases_lt i p) [
        | inl old ↦ (
          before lead x p m x_long room i old ∙ (turns i old).0,
          before follow y p m y_long room_too i old ∙ (turns i old).1,
        )
        | inr new ↦
            let j : ℕ = i - p in
            let pair = block j (omega arith) in (
              within lead x p m x_long room i j (omega arith) (omega arith) ∙ pair.0 ∙ part_of run q n (2 * j) (2 * i) (omega arith) (omega arith),
              within follow y p m y_long room_too i j (omega arith) (omega arith) ∙ pair.1 ∙ part_of run q n (2 * j + 1) (2 * i + 1) (omega arith) (omega arith),
            )
      ]
