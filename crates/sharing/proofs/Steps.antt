-- The steps of the search, as the code makes them.
use Rattle.std.proofs.Common.{◌≡◌, ℕ, zero, suc, ◌+◌, ◌-◌, ◌*◌, ◌/◌, ◌%◌, ◌<◌, ◌≤◌, Bool, true, false, List, [], ◌∷◌, length, replicate, Some, None, Option, refl, sym, ap, ◌∙◌, arith, get_or}
use Rattle.std.proofs.lemmas.Bool.{eqb-true}
use Rattle.std.proofs.lemmas.List.{length-replicate, length-set}
use Rattle.std.proofs.lemmas.Option.{slice_get_past}
use Rattle.std.specs.List.{slice_get}
use Rattle.rules.specs.State.{State, entry, kind_of}
use Rattle.rules.specs.declared.entry.Entry.{Entry}
use Rattle.sharing.specs.Search.{AreTypes, IsListed, all_widened, at, entry_widened, found, is_of, last_of, leading, leads_as, nothing_found, searched, with_added}
use Rattle.sharing.specs.declared.gathering.Gathering.{Gathering}
use Rattle.sharing.specs.declared.types.Types.{Types}
use Rattle.sharing.proofs.Taking.{leading_same}

-- an entry by its place
pub at_place : (s : State) (t i : ℕ) → i < 64 → at s (64 * t + i) ≡ entry s t i
at_place s t i less =
    let table : (64 * t + i) / 64 ≡ t = omega arith in
    let index : (64 * t + i) % 64 ≡ i = omega arith in
    rw (table, index) refl

-- the first of a list of places of a type
pub record IsFirst (s : State) (kind j n : ℕ) : Type 0 where
  pub rest : ℕ
  pub fewer : rest < j
  pub is_it : n ≡ 576 - suc rest
  pub list : last_of s kind j ≡ n ∷ last_of s kind rest
  pub is_kind : is_of (at s n) kind ≡ true

pub first_of : (s : State) (kind j n : ℕ) → slice_get (last_of s kind j) 0 ≡ Some n → IsFirst s kind j n
unfolding last_of
first_of s kind zero n h = cc
first_of s kind (suc j) n h = go (first_of s kind j n) (is_of (at s (576 - suc j)) kind) refl
  where
    go : (slice_get (last_of s kind j) 0 ≡ Some n → IsFirst s kind j n) → (b : Bool) → is_of (at s (576 - suc j)) kind ≡ b → IsFirst s kind (suc j) n
    go before true e =
        let h' : slice_get ((576 - suc j) ∷ last_of s kind j) 0 ≡ Some n = rw e at h in
        let same : 576 - suc j ≡ n = cc in
        record { rest = j; fewer = omega arith; is_it = sym same; list = rw (e, same) refl; is_kind = rw (← same) e }
    go before false e =
        let h' : slice_get (last_of s kind j) 0 ≡ Some n = rw e at h in
        let f = before h' in
        record { rest = f.rest; fewer = omega (arith, f.fewer); is_it = f.is_it; list = rw e f.list; is_kind = f.is_kind }

-- the next after it
pub next_of : (s : State) (T : Types) (kind j n : ℕ) → AreTypes s T 576 → j ≤ 576 → (f : IsFirst s kind j n) → get_or T.next n None ≡ slice_get (last_of s kind f.rest) 0
next_of s T kind j n types le f = go (at s n) refl
  where
    go : (x : Option Entry) → at s n ≡ x → get_or T.next n None ≡ slice_get (last_of s kind f.rest) 0
    go None e = let no : is_of None kind ≡ true = rw e at f.is_kind in cc
    go (Some e) is =
        let yes : is_of (Some e) kind ≡ true = rw is at f.is_kind in
        let same : kind_of e ≡ kind = eqb-true (kind_of e) kind yes in
        let n_is = f.is_it in
        let few = f.fewer in
        let rest : 575 - n ≡ f.rest = omega arith in
        types.next n e (omega arith) (omega arith) is ∙ rw (same, rest) refl

-- a list without a first is empty
pub none_first : {X : Type 0} (xs : List X) → slice_get xs 0 ≡ None → xs ≡ []
none_first [] h = refl
none_first (x ∷ xs) h = cc

-- rights added to a type change nothing of what leads on
pub listed_added : (s : State) (g : Gathering) (kind rights : ℕ) → IsListed s g → IsListed s (with_added kind rights g)
listed_added s g kind rights i =
    record {
      places = i.places;
      types = length-set g.added kind rights ∙ i.types;
      listed = i.listed ∙ sym (leading_same s g (with_added kind rights g) 576 (λ m l. refl));
    }

-- at first nothing is anywhere, and nothing leads on
pub nowhere : (n m : ℕ) → get_or (replicate {A = Option ℕ} n None) m None ≡ None
nowhere zero m = refl
nowhere (suc n) zero = refl
nowhere (suc n) (suc m) = nowhere n m

pub listed_first : (s : State) → IsListed s nothing_found
unfolding leading
listed_first s = record { places = length-replicate {A = Option ℕ} 576 None; types = length-replicate {A = ℕ} 256 0; listed = sym (none 576) }
  where
    not_found : (x : Option Entry) → leads_as x None ≡ false
    not_found (Some e) = refl
    not_found None = refl

    none : (n : ℕ) → leading s nothing_found n ≡ 0
    none zero = refl
    none (suc n) = rw (nowhere 576 n, not_found (at s n), none n) refl

-- once nothing is left to follow, the search has ended
pub searched_on : (s : State) (g : Gathering) (n k : ℕ) → slice_get (searched s n g).leads n ≡ None → searched s (n + k) g ≡ searched s n g
unfolding searched
searched_on s g n zero h = let up : n + zero ≡ n = omega arith in rw up refl
searched_on s g n (suc k) h =
    let same = searched_on s g n k h in
    let up : n + suc k ≡ suc (n + k) = omega arith in
    let past : slice_get (searched s n g).leads (n + k) ≡ None = slice_get_past _ (n + k) (omega (arith, ends (searched s n g).leads n h)) in
    rw up (rw (same, past) refl)
  where
    ends : {X : Type 0} (xs : List X) (i : ℕ) → slice_get xs i ≡ None → length xs ≤ i
    ends [] i h = omega arith
    ends (x ∷ xs) zero h = cc
    ends (x ∷ xs) (suc i) h = let less = ends xs i h in omega arith

pub searched_all : (s : State) (g : Gathering) (n : ℕ) → n ≤ 576 → slice_get (searched s n g).leads n ≡ None → searched s 576 g ≡ searched s n g
searched_all s g n le h = let all : 576 ≡ n + (576 - n) = omega arith in ap (λ (i : ℕ). searched s i g) all ∙ searched_on s g n (576 - n) h

-- what is left to widen after one place, and once nothing is left
pub rest_after : (s : State) (kind j n : ℕ) (f : IsFirst s kind j n) (g g' all : Gathering) → g' ≡ entry_widened n (at s n) (found g n) g → all_widened s (last_of s kind j) g ≡ all → all_widened s (last_of s kind f.rest) g' ≡ all
unfolding all_widened
rest_after s kind j n f g g' all is rest = rw is (rw f.list at rest)

pub rest_none : (s : State) (kind j : ℕ) (g all : Gathering) → slice_get (last_of s kind j) 0 ≡ None → all_widened s (last_of s kind j) g ≡ all → g ≡ all
unfolding all_widened
rest_none s kind j g all none rest = rw (none_first (last_of s kind j) none) at rest
