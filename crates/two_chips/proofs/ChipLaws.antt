-- The laws of two chips that mean one list of bytes.
use Rattle.std.proofs.Common.{◌≡◌, ℕ, ◌/◌, ◌%◌, ◌<◌, ◌≤◌, ◌≢◌, length, get_or, set, refl, ap, ◌∙◌, sym, inl, inr, arith}
use Rattle.std.proofs.lemmas.Bool.{cases_eq, cases_lt, cond_below, cond_above}
use Rattle.std.proofs.lemmas.List.{length-set, get_or-set_same, get_or-set_other, set_past, same_lists, get_or_default}
use Rattle.std.proofs.lemmas.List.FromFn.{get_or-map-range_with_len, length-map-range_with_len}
use Rattle.two_chips.specs.Chips.{Chips, byte_at, bytes_of, put, set_at, size}

-- chips that hold the same
pub same_chips : (c d : Chips) → c.first ≡ d.first → c.second ≡ d.second → c ≡ d
same_chips c d p q = λ i. record { first = p i; second = q i }

module _ (c : Chips) (a : ℕ) where
  pub byte_even : a % 2 ≡ 0 → byte_at c a ≡ get_or c.first (a / 2) 0
  unfolding byte_at
  byte_even e = rw e refl

  pub byte_odd : a % 2 ≡ 1 → byte_at c a ≡ get_or c.second (a / 2) 0
  unfolding byte_at
  byte_odd e = rw e refl

  pub set_even : (b : ℕ) → a % 2 ≡ 0 → set_at c a b ≡ record c { first = set c.first (a / 2) b }
  unfolding set_at
  set_even b e = rw e refl

  pub set_odd : (b : ℕ) → a % 2 ≡ 1 → set_at c a b ≡ record c { second = set c.second (a / 2) b }
  unfolding set_at
  set_odd b e = rw e refl

  pub put_inside : (b : ℕ) → a < size c → put c a b ≡ set_at c a b
  unfolding put
  put_inside b less = sym (cond_below a (size c) (set_at c a b) c less)

  pub put_past : (b : ℕ) → size c ≤ a → put c a b ≡ c
  unfolding put
  put_past b past = sym (cond_above a (size c) (set_at c a b) c c past refl)

pub length-bytes_of : (c : Chips) → length (bytes_of c) ≡ size c
unfolding bytes_of
length-bytes_of c = length-map-range_with_len (byte_at c) 0 (size c)

pub get_or-bytes_of : (c : Chips) (a : ℕ) → a < size c → get_or (bytes_of c) a 0 ≡ byte_at c a
unfolding bytes_of
get_or-bytes_of c a less = get_or-map-range_with_len (byte_at c) 0 (size c) a a 0 less (omega arith)

size-set_at : (c : Chips) (a b : ℕ) → size (set_at c a b) ≡ size c
size-set_at c a b =
    elim (cases_lt (a % 2) 1) [
      | inl less ↦ rw (set_even c a b (omega arith), length-set) refl
      | inr more ↦ rw (set_odd c a b (omega arith), length-set) refl
    ]

-- the byte written stands at its address
byte_set_same : (c : Chips) (a b : ℕ) → a < size c → byte_at (set_at c a b) a ≡ b
byte_set_same c a b less =
    elim (cases_lt (a % 2) 1) [
      | inl even ↦ byte_even (set_at c a b) a (omega arith) ∙ rw (set_even c a b (omega arith)) (get_or-set_same c.first (a / 2) b 0 (omega arith))
      | inr odd ↦ byte_odd (set_at c a b) a (omega arith) ∙ rw (set_odd c a b (omega arith)) (get_or-set_same c.second (a / 2) b 0 (omega arith))
    ]

-- and at others what stood there
byte_set_other : (c : Chips) (a b k : ℕ) → k ≢ a → byte_at (set_at c a b) k ≡ byte_at c k
byte_set_other c a b k ne =
    elim (cases_lt (a % 2) 1) [
      | inl even ↦ rw (set_even c a b (omega arith)) (elim (cases_lt (k % 2) 1) [
        | inl e ↦ byte_even _ k (omega arith) ∙ get_or-set_other c.first (a / 2) (k / 2) b 0 (omega arith) ∙ sym (byte_even c k (omega arith))
        | inr o ↦ byte_odd _ k (omega arith) ∙ sym (byte_odd c k (omega arith))
      ])
      | inr odd ↦ rw (set_odd c a b (omega arith)) (elim (cases_lt (k % 2) 1) [
        | inl e ↦ byte_even _ k (omega arith) ∙ sym (byte_even c k (omega arith))
        | inr o ↦ byte_odd _ k (omega arith) ∙ get_or-set_other c.second (a / 2) (k / 2) b 0 (omega arith) ∙ sym (byte_odd c k (omega arith))
      ])
    ]

bytes_of-set : (c : Chips) (a b : ℕ) → a < size c → bytes_of (set_at c a b) ≡ set (bytes_of c) a b
bytes_of-set c a b less =
    same_lists (bytes_of (set_at c a b)) (set (bytes_of c) a b) long
    (λ k d h.
    get_or_default (bytes_of (set_at c a b)) k d 0 h ∙ each k (omega (arith, h, length-bytes_of (set_at c a b), size-set_at c a b))
    ∙ get_or_default (set (bytes_of c) a b) k 0 d (omega (arith, h, long)))
  where
    long : length (bytes_of (set_at c a b)) ≡ length (set (bytes_of c) a b)
    long = length-bytes_of (set_at c a b) ∙ size-set_at c a b ∙ sym (length-bytes_of c) ∙ sym (length-set (bytes_of c) a b)

    each : (k : ℕ) → k < size c → get_or (bytes_of (set_at c a b)) k 0 ≡ get_or (set (bytes_of c) a b) k 0
    each k h =
        get_or-bytes_of (set_at c a b) k (omega (arith, size-set_at c a b))
        ∙ elim (cases_eq k a) [
          | inl same ↦ rw same (byte_set_same c a b less ∙ sym (get_or-set_same (bytes_of c) a b 0 (omega (arith, length-bytes_of c))))
          | inr ne ↦ byte_set_other c a b k ne ∙ sym (get_or-bytes_of c k h) ∙ sym (get_or-set_other (bytes_of c) a k b 0 ne)
        ]

pub bytes_of-put : (c : Chips) (a b : ℕ) → bytes_of (put c a b) ≡ set (bytes_of c) a b
bytes_of-put c a b =
    elim (cases_lt a (size c)) [
      | inl less ↦ ap bytes_of (put_inside c a b less) ∙ bytes_of-set c a b less
      | inr past ↦ ap bytes_of (put_past c a b past) ∙ sym (set_past (bytes_of c) a b (omega (arith, length-bytes_of c)))
    ]

pub size-put : (c : Chips) (a b : ℕ) → size (put c a b) ≡ size c
size-put c a b =
    elim (cases_lt a (size c)) [
      | inl less ↦ ap size (put_inside c a b less) ∙ size-set_at c a b
      | inr past ↦ ap size (put_past c a b past)
    ]

-- bytes of the list, as they stand in the chips
module _ (c : Chips) (a h : ℕ) (inside : a < size c) (half : h ≡ a / 2) where
  pub in_first : a % 2 ≡ 0 → get_or c.first h 0 ≡ get_or (bytes_of c) a 0
  in_first even = rw half (sym (get_or-bytes_of c a inside ∙ byte_even c a even))

  pub in_second : a % 2 ≡ 1 → get_or c.second h 0 ≡ get_or (bytes_of c) a 0
  in_second odd = rw half (sym (get_or-bytes_of c a inside ∙ byte_odd c a odd))
