-- What one step of the search changes, and that each entry that leads on is listed once.
use Rattle.std.proofs.Common.{◌≡◌, ◌≢◌, ℕ, zero, suc, ◌+◌, ◌/◌, ◌^◌, ◌<◌, ◌≤◌, ◌==◌, Bool, true, false, if◌then◌else◌, not, ◌&&◌, ◌||◌, [], ◌∷◌, ◌++◌, length, bit_or, Some, None, Option, refl, sym, ap, ◌∙◌, inl, inr, arith, max}
use Rattle.std.specs.Int.{bit_at}
use Rattle.std.proofs.lemmas.Bool.{and_parts, cases_eq, leb-true}
use Rattle.std.proofs.lemmas.List.{get_or-set_other, get_or-set_same, length-append, length-set}
use Rattle.std.proofs.lemmas.Nat.{and_mask}
use Rattle.std.proofs.lemmas.Nat.Bits.{bit_at_or, bit_at-lt, shr_and_one}
use Rattle.rules.specs.Code.{weight}
use Rattle.rules.specs.State.{State, has, kind_of}
use Rattle.rules.specs.declared.entry.Entry.{Entry}
use Rattle.rules.specs.declared.rights.Right.{Right}
use Rattle.rules.specs.declared.rights.Right.TheVariants.{Read, Write, Type1, Type2, Type3, Delete}
use Rattle.sharing.specs.Search.{IsListed, at, added, found, key, leading, leads, leads_as, starts, sum_of, taken, widened}
use Rattle.sharing.specs.declared.gathering.Gathering.{Gathering}

-- rights in one set or the other
module _ (a b k : ℕ) where
  bit_is : (n : ℕ) → has (2 ^ k) n ≡ (bit_at n k == 1)
  bit_is n = ap (λ (x : ℕ). x == 1) (sym (and_mask (n / 2 ^ k) 1) ∙ shr_and_one n k)

  bit_or_has : has (2 ^ k) (bit_or a b) ≡ (has (2 ^ k) a || has (2 ^ k) b)
  bit_or_has = rw (bit_is (bit_or a b), bit_is a, bit_is b) (go (bit_at a k) (bit_at b k) (bit_at (bit_or a b) k) (bit_at-lt a k) (bit_at-lt b k) (bit_at_or a b k))
    where
      go : (x y z : ℕ) → x < 2 → y < 2 → z ≡ max x y → (z == 1) ≡ ((x == 1) || (y == 1))
      go zero zero z l m e = rw e refl
      go zero (suc zero) z l m e = rw e refl
      go (suc zero) zero z l m e = rw e refl
      go (suc zero) (suc zero) z l m e = rw e refl
      go (suc (suc x)) y z l m e = absurd (omega arith)
      go zero (suc (suc y)) z l m e = absurd (omega arith)
      go (suc zero) (suc (suc y)) z l m e = absurd (omega arith)

pub or_has : (r : Right) (a b : ℕ) → has (weight r) (bit_or a b) ≡ (has (weight r) a || has (weight r) b)
or_has Read a b = bit_or_has a b 0
or_has Write a b = bit_or_has a b 1
or_has Type1 a b = bit_or_has a b 2
or_has Type2 a b = bit_or_has a b 3
or_has Type3 a b = bit_or_has a b 4
or_has Delete a b = bit_or_has a b 5

pub has_zero : (r : Right) → has (weight r) 0 ≡ false
has_zero Read = refl
has_zero Write = refl
has_zero Type1 = refl
has_zero Type2 = refl
has_zero Type3 = refl
has_zero Delete = refl

-- no right is lost
pub still_has : (r : Right) (a b c : ℕ) → has (weight r) a ≡ true → has (weight r) (bit_or (bit_or a b) c) ≡ true
still_has r a b c h = rw (or_has r (bit_or a b) c, or_has r a b, h) refl

-- one step
module _ (g : Gathering) (n : ℕ) (e : Entry) (r : ℕ) (places : length g.rights ≡ 576) where
  pub found_same : n < 576 → found (taken n e r g) n ≡ Some (widened g n e r)
  unfolding taken
  found_same less = get_or-set_same g.rights n (Some (widened g n e r)) None (omega (arith, places))

  pub found_other : (m : ℕ) → m ≢ n → found (taken n e r g) m ≡ found g m
  unfolding taken
  found_other m ne = get_or-set_other g.rights n m (Some (widened g n e r)) None ne

-- how many lead on
module _ (s : State) where
  abbrev one : Bool → ℕ
  one b = if b then 1 else 0

  one_le : (b : Bool) → one b ≤ 1
  one_le true = leb-true 1 1 refl
  one_le false = leb-true 0 1 refl

  pub leading_le : (g : Gathering) (n : ℕ) → leading s g n ≤ n
  unfolding leading
  leading_le g zero = omega arith
  leading_le g (suc n) = omega (arith, leading_le g n, one_le (leads_as (at s n) (found g n)))

  pub leading_same : (g h : Gathering) (n : ℕ) → ((m : ℕ) → m < n → leads_as (at s m) (found h m) ≡ leads_as (at s m) (found g m)) → leading s h n ≡ leading s g n
  unfolding leading
  leading_same g h zero same = refl
  leading_same g h (suc n) same = rw (same n (omega arith), leading_same g h n (λ m l. same m (omega arith))) refl

  shift : (a b : ℕ) → a + suc b ≡ suc (a + b)
  shift a b = omega arith

  leading_more : (g h : Gathering) (i n : ℕ) → i < n → ((m : ℕ) → m ≢ i → leads_as (at s m) (found h m) ≡ leads_as (at s m) (found g m)) →
      leads_as (at s i) (found g i) ≡ false → leads_as (at s i) (found h i) ≡ true → leading s h n ≡ suc (leading s g n)
  unfolding leading
  leading_more g h i zero less same was is = absurd (omega arith)
  leading_more g h i (suc n) less same was is =
      elim (cases_eq i n) [
        | inl e ↦
            let rest : leading s h n ≡ leading s g n = leading_same g h n (λ m l. same m (λ c. omega arith)) in
            let here : leads_as (at s n) (found g n) ≡ false = rw e at was in
            let now : leads_as (at s n) (found h n) ≡ true = rw e at is in
            rw (here, now, rest) (omega arith)
        | inr ne ↦ rw (same n (λ c. ne (sym c)), leading_more g h i n (omega arith) same was is) (shift (one (leads_as (at s n) (found g n))) (leading s g n))
      ]

-- what leads on was found with the right to
leads_sum : (e : Entry) (x : Option ℕ) → leads_as (Some e) x ≡ leads e (sum_of x)
leads_sum e (Some rights) = refl
leads_sum e None = sym (has_zero (key e))

module _ (s : State) (g : Gathering) (n : ℕ) (e : Entry) (r : ℕ) (i : IsListed s g) (is : at s n ≡ Some e) (less : n < 576) where
  was : leads_as (at s n) (found g n) ≡ leads e (sum_of (found g n))
  was = rw is (leads_sum e (found g n))

  now : leads_as (at s n) (found (taken n e r g) n) ≡ leads e (widened g n e r)
  now = rw (is, found_same g n e r i.places less) refl

  others : (m : ℕ) → m ≢ n → leads_as (at s m) (found (taken n e r g) m) ≡ leads_as (at s m) (found g m)
  others m ne = rw (found_other g n e r i.places m ne) refl

  more : starts g n e r ≡ true → leading s (taken n e r g) 576 ≡ suc (leading s g 576)
  more h =
      let parts = and_parts (leads e (widened g n e r)) (not (leads e (sum_of (found g n)))) h in
      leading_more s g (taken n e r g) n 576 less others (was ∙ not_true (leads e (sum_of (found g n))) parts.1) (now ∙ parts.0)
    where
      not_true : (b : Bool) → not b ≡ true → b ≡ false
      not_true true h = cc
      not_true false h = refl

  kept : starts g n e r ≡ false → leading s (taken n e r g) 576 ≡ leading s g 576
  kept h = leading_same s g (taken n e r g) 576 same
    where
      stays : (a b : Bool) → (b ≡ true → a ≡ true) → (a && not b) ≡ false → a ≡ b
      stays true true f h = refl
      stays true false f h = cc
      stays false true f h = f refl
      stays false false f h = refl

      same : (m : ℕ) → m < 576 → leads_as (at s m) (found (taken n e r g) m) ≡ leads_as (at s m) (found g m)
      same m l =
          elim (cases_eq m n) [
            | inl c ↦ rw c (now ∙ stays (leads e (widened g n e r)) (leads e (sum_of (found g n))) (λ b. still_has (key e) (sum_of (found g n)) r (added g (kind_of e)) b) h ∙ sym was)
            | inr ne ↦ others m ne
          ]

  -- there is room in the list for one that comes to lead on
  pub room : starts g n e r ≡ true → length g.leads < 576
  room h = omega (arith, more h, leading_le s (taken n e r g) 576, i.listed)

  pub listed_taken : IsListed s (taken n e r g)
  unfolding taken
  listed_taken = record { places = places'; types = types'; listed = go (starts g n e r) refl }
    where
      places' : length (taken n e r g).rights ≡ 576
      places' = length-set g.rights n (Some (widened g n e r)) ∙ i.places

      types' : length (taken n e r g).added ≡ 256
      types' = i.types

      go : (b : Bool) → starts g n e r ≡ b → length (taken n e r g).leads ≡ leading s (taken n e r g) 576
      go true h = list (rw h refl) ∙ sym (more h)
        where
          list : (if starts g n e r then g.leads ++ n ∷ [] else g.leads) ≡ g.leads ++ n ∷ [] → length (taken n e r g).leads ≡ suc (leading s g 576)
          list c = rw c (omega (arith, length-append g.leads (n ∷ []), i.listed))
      go false h = list (rw h refl) ∙ sym (kept h)
        where
          list : (if starts g n e r then g.leads ++ n ∷ [] else g.leads) ≡ g.leads → length (taken n e r g).leads ≡ leading s g 576
          list c = rw c i.listed
