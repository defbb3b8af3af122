-- The order of tables and stacks that the operators rely on, and how it lasts.
use Rattle.std.proofs.Common.{◌≡◌, ◌≢◌, ℕ, zero, suc, ◌+◌, ◌-◌, ◌*◌, ◌<◌, ◌≤◌, Bool, true, false, cond, ◌&&◌, ltb, leb, List, [], ◌∷◌, ◌++◌, length, get_or, take, replicate, Some, None, Option, sym, refl, ap, ◌∙◌, subst, inl, inr, arith, length-append, length-take}
use Rattle.std.proofs.lemmas.Bool.{and_parts, cases_eq, cases_lt, lt-ltb, ltb-true, le-leb, leb-true}
use Rattle.std.proofs.lemmas.List.{get_or-set_other, get_or-set_same, get_or_default, length-take-le, set-get_or}
use Rattle.std.specs.List.{slice_get}
use Rattle.bank.proofs.RunLaws.{write_run_none}
use Rattle.std.specs.Option.{IfSome}
use Rattle.rules.proofs.Entries.{slice_get_append, slice_get_end, slice_get_take}
use Rattle.rules.specs.declared.entry.Entry.{Entry}
use Rattle.rules.specs.State.{State, Table, block_start, empty, entry, level, no_table, stack, table, takes}
use Rattle.rules.specs.Operators.{calling}
use Rattle.rules.specs.Tests.{current, has_room}
use Rattle.rules.specs.Effects.{add, enter, grown, new_object, next_index, overwrite, popped, with_stack, with_table}
use Rattle.store.specs.Orderly.{InTables, IsOrderly, all_fit, are_contexts, fits_table, is_object}

-- tables of entries that fit
pub all_fit_append : (t : ℕ) (es : List Entry) (e : Entry) → all_fit t es ≡ true → fits_table t e ≡ true → all_fit t (es ++ e ∷ []) ≡ true
unfolding all_fit
all_fit_append t [] e h f = rw f
all_fit_append t (x ∷ es) e h f =
    let parts = and_parts (fits_table t x) (all_fit t es) h in
    rw (parts.0, all_fit_append t es e parts.1 f)

pub all_fit_take : (t n : ℕ) (es : List Entry) → all_fit t es ≡ true → all_fit t (take n es) ≡ true
unfolding all_fit
all_fit_take t zero es h = refl
all_fit_take t (suc n) [] h = refl
all_fit_take t (suc n) (x ∷ es) h =
    let parts = and_parts (fits_table t x) (all_fit t es) h in
    rw (parts.0, all_fit_take t n es parts.1)

pub all_fit_at : (t i : ℕ) (es : List Entry) (e : Entry) → all_fit t es ≡ true → slice_get es i ≡ Some e → fits_table t e ≡ true
unfolding all_fit
all_fit_at t i [] e h g = cc
all_fit_at t zero (x ∷ es) e h g =
    let same : x ≡ e = cc in
    rw (← same) (and_parts (fits_table t x) (all_fit t es) h).0
all_fit_at t (suc i) (x ∷ es) e h g = all_fit_at t i es e (and_parts (fits_table t x) (all_fit t es) h).1 g

-- contexts stay contexts while the entries below them stay
pub contexts_last : (es es' : List Entry) (n m : ℕ) (cs : List ℕ) → n ≤ m → ((c : ℕ) → c < n → slice_get es' c ≡ slice_get es c) → are_contexts es n cs ≡ true → are_contexts es' m cs ≡ true
unfolding are_contexts
contexts_last es es' n m [] le same h = refl
contexts_last es es' n m (c ∷ cs) le same h =
    let parts = and_parts (ltb c n) (is_object (slice_get es c) && are_contexts es c cs) h in
    let more = and_parts (is_object (slice_get es c)) (are_contexts es c cs) parts.1 in
    let below : c < n = ltb-true c n parts.0 in
    let rest : are_contexts es' c cs ≡ true = contexts_last es es' c c cs (omega arith) (λ d l. same d (omega arith)) more.1 in
    rw (lt-ltb c m (omega arith), same c below, more.0, rest)

pub contexts_added : (es : List Entry) (e : Entry) (cs : List ℕ) → are_contexts es (length es) cs ≡ true → are_contexts (es ++ e ∷ []) (length (es ++ e ∷ [])) cs ≡ true
contexts_added es e cs h = contexts_last es (es ++ e ∷ []) (length es) (length (es ++ e ∷ [])) cs (omega (arith, length-append es (e ∷ []))) (slice_get_append es e) h

pub contexts_opened : (es : List Entry) (e : Entry) (cs : List ℕ) → is_object (Some e) ≡ true → are_contexts es (length es) cs ≡ true → are_contexts (es ++ e ∷ []) (length (es ++ e ∷ [])) (length es ∷ cs) ≡ true
unfolding are_contexts
contexts_opened es e cs o h =
    rw (lt-ltb (length es) (length (es ++ e ∷ [])) (omega (arith, length-append es (e ∷ []))), slice_get_end es e, o)
    (contexts_last es (es ++ e ∷ []) (length es) (length es) cs (omega arith) (slice_get_append es e) h)

pub contexts_closed : (es : List Entry) (n c : ℕ) (cs : List ℕ) → n ≤ length es → are_contexts es n (c ∷ cs) ≡ true → are_contexts (take c es) (length (take c es)) cs ≡ true
unfolding are_contexts
contexts_closed es n c cs le h =
    let parts = and_parts (ltb c n) (is_object (slice_get es c) && are_contexts es c cs) h in
    let more = and_parts (is_object (slice_get es c)) (are_contexts es c cs) parts.1 in
    let below : c < n = ltb-true c n parts.0 in
    let size : length (take c es) ≡ c = length-take-le c es (omega arith) in
    contexts_last es (take c es) c (length (take c es)) cs (omega (arith, size)) (slice_get_take c es) more.1

-- a state of which one table and its task's stack have changed
pub orderly_but : (s s' : State) (t : ℕ) → IsOrderly s → ((u : ℕ) → u ≢ t → table s' u ≡ table s u) → ((u : ℕ) → u ≢ t → stack s' u ≡ stack s u) →
    length (table s' t).entries ≤ 64 → all_fit t (table s' t).entries ≡ true → are_contexts (table s' t).entries (length (table s' t).entries) (stack s' t) ≡ true → IsOrderly s'
orderly_but s s' t o tables stacks few fit opened =
    record {
      few = λ u.
          elim (cases_eq u t) [
            | inl e ↦ subst (λ (v : ℕ). length (table s' v).entries ≤ 64) (sym e) few
            | inr ne ↦ subst (λ (x : Table). length x.entries ≤ 64) (sym (tables u ne)) (o.few u)
          ];
      entries = λ u.
          elim (cases_eq u t) [
            | inl e ↦ subst (λ (v : ℕ). all_fit v (table s' v).entries ≡ true) (sym e) fit
            | inr ne ↦ subst (λ (x : Table). all_fit u x.entries ≡ true) (sym (tables u ne)) (o.entries u)
          ];
      contexts = λ u.
          elim (cases_eq u t) [
            | inl e ↦ subst (λ (v : ℕ). are_contexts (table s' v).entries (length (table s' v).entries) (stack s' v) ≡ true) (sym e) opened
            | inr ne ↦ rw (tables u ne, stacks u ne) (o.contexts u)
          ];
    }

-- one table of a state replaced
module _ (s : State) (t : ℕ) (x : Table) where
  other_tables : (u : ℕ) → u ≢ t → table (with_table t x s) u ≡ table s u
  unfolding table with_table
  other_tables u ne = get_or-set_other s.tables t u x no_table ne

  new_table : t < length s.tables → table (with_table t x s) t ≡ x
  unfolding table with_table
  new_table h = get_or-set_same s.tables t x no_table h

  same_stacks : (u : ℕ) → stack (with_table t x s) u ≡ stack s u
  unfolding stack with_table
  same_stacks u = refl

  same_heights : length (with_table t x s).stacks ≡ length s.stacks
  unfolding with_table
  same_heights = refl

  orderly_table : IsOrderly s → t < length s.tables → length x.entries ≤ 64 → all_fit t x.entries ≡ true → are_contexts x.entries (length x.entries) (stack s t) ≡ true → IsOrderly (with_table t x s)
  orderly_table o h few fit contexts =
      orderly_but s (with_table t x s) t o other_tables (λ u ne. same_stacks u) (rw (new_table h) few) (rw (new_table h) fit) (rw (new_table h, same_stacks t) contexts)

-- one stack replaced
module _ (s : State) (q : ℕ) (cs : List ℕ) where
  same_tables : (u : ℕ) → table (with_stack q cs s) u ≡ table s u
  unfolding table with_stack
  same_tables u = refl

  other_stacks : (u : ℕ) → u ≢ q → stack (with_stack q cs s) u ≡ stack s u
  unfolding stack with_stack
  other_stacks u ne = get_or-set_other s.stacks q u cs [] ne

  new_stack : q < length s.stacks → stack (with_stack q cs s) q ≡ cs
  unfolding stack with_stack
  new_stack h = get_or-set_same s.stacks q cs [] h

-- room in a table, as numbers
pub room_is : (x : Table) (n : ℕ) → has_room x n ≡ true → (length x.entries < 64) × (x.claim + n ≤ 2048)
unfolding has_room
room_is x n h =
    let both : (ltb (length x.entries) 64 ≡ true) × (leb (x.claim + n) 2048 ≡ true) = and_parts (ltb (length x.entries) 64) (leb (x.claim + n) 2048) h in
    (ltb-true (length x.entries) 64 both.0, leb-true (x.claim + n) 2048 both.1)

-- an entry added, if there is room for it, which then fits its table
pub orderly_grown : (s : State) (t : ℕ) (e : Entry) (r x : Table) → IsOrderly s → t < length s.tables →
    x ≡ cond (has_room (get_or s.tables t r) (takes e)) (grown (get_or s.tables t r) e) (get_or s.tables t r) →
    (has_room (table s t) (takes e) ≡ true → fits_table t e ≡ true) → IsOrderly (with_table t x s)
unfolding grown table
orderly_grown s t e r x o inside is fit = go (has_room (table s t) (takes e)) refl
  where
    at : get_or s.tables t r ≡ table s t
    at = get_or_default s.tables t r no_table inside

    after : x ≡ cond (has_room (table s t) (takes e)) (grown (table s t) e) (table s t)
    after = rw at at is

    go : (b : Bool) → has_room (table s t) (takes e) ≡ b → IsOrderly (with_table t x s)
    go true has =
        let new : x ≡ grown (table s t) e = after ∙ rw has refl in
        let room : length (table s t).entries < 64 = (room_is (table s t) (takes e) has).0 in
        orderly_table s t x o inside (rw new (omega (arith, length-append (table s t).entries (e ∷ []), room))) (rw new (all_fit_append t (table s t).entries e (o.entries t) (fit has))) (rw new (contexts_added (table s t).entries e (stack s t) (o.contexts t)))
    go false has =
        let new : x ≡ table s t = after ∙ rw has refl in
        orderly_table s t x o inside (rw new (o.few t)) (rw new (o.entries t)) (rw new (o.contexts t))

-- a context opened whose object was added last
pub orderly_entered : (s u : State) (q i : ℕ) (e : Entry) (p : List ℕ) → q < length u.stacks → IsOrderly s → IsOrderly u → is_object (Some e) ≡ true →
    table u q ≡ grown (table s q) e → stack u q ≡ stack s q → i ≡ length (table s q).entries → p ≡ i ∷ stack u q → IsOrderly (with_stack q p u)
unfolding grown
orderly_entered s u q i e p inside o o' object grows same index is =
    let opened : are_contexts (table u q).entries (length (table u q).entries) p ≡ true = rw (is, grows, same, index) (contexts_opened (table s q).entries e (stack s q) object (o.contexts q)) in
    orderly_but u (with_stack q p u) q o' (λ v ne. same_tables u q p v) (other_stacks u q p)
    (rw (same_tables u q p q) (o'.few q))
    (rw (same_tables u q p q) (o'.entries q))
    (rw (same_tables u q p q, new_stack u q p inside) opened)

-- an object made at the claim fits its table
pub made_fits : (t claim n k a b : ℕ) → claim + n ≤ 2048 → a ≡ block_start t + claim → b ≡ a + 4 * k → (leb (block_start t + 4 * k) b && leb (b - 4 * k - block_start t) 2048) ≡ true
made_fits t claim n k a b room begin base = rw (le-leb (block_start t + 4 * k) b (omega arith), le-leb (b - 4 * k - block_start t) 2048 (omega arith))

-- the current context is a storage object
module _ (s : State) (q c : ℕ) (o : IsOrderly s) (now : current (stack s q) ≡ Some c) where
  is_top : stack s q ≡ c ∷ popped (stack s q)
  is_top = top (stack s q) now
    where
      top : (ks : List ℕ) → current ks ≡ Some c → ks ≡ c ∷ popped ks
      top [] e = cc
      top (k ∷ ks) e = let same : k ≡ c = cc in rw same

  opened : are_contexts (table s q).entries (length (table s q).entries) (c ∷ popped (stack s q)) ≡ true
  opened = rw is_top at (o.contexts q)

  pub is_opened : is_object (entry s q c) ≡ true
  unfolding are_contexts entry
  is_opened = (and_parts (is_object (slice_get (table s q).entries c)) (are_contexts (table s q).entries c (popped (stack s q))) (and_parts (ltb c (length (table s q).entries)) (is_object (slice_get (table s q).entries c) && are_contexts (table s q).entries c (popped (stack s q))) opened).1).0

-- and so is the one from which it was called
is_calling : (s : State) (q c : ℕ) → IsOrderly s → calling (stack s q) ≡ Some c → is_object (entry s q c) ≡ true
unfolding entry are_contexts
is_calling s q c o is = second (table s q).entries (length (table s q).entries) (stack s q) (o.contexts q) is
  where
    second : (es : List Entry) (n : ℕ) (ks : List ℕ) → are_contexts es n ks ≡ true → calling ks ≡ Some c → is_object (slice_get es c) ≡ true
    second es n [] h e = cc
    second es n (k ∷ []) h e = cc
    second es n (k ∷ b ∷ ks) h e =
        let same : b ≡ c = cc in
        let below = and_parts (is_object (slice_get es k)) (are_contexts es k (b ∷ ks)) (and_parts (ltb k n) (is_object (slice_get es k) && are_contexts es k (b ∷ ks)) h).1 in
        rw (← same) (and_parts (is_object (slice_get es b)) (are_contexts es b ks) (and_parts (ltb b k) (is_object (slice_get es b) && are_contexts es b ks) below.1).1).0

pub opened_object : (s : State) (q : ℕ) (x : Option ℕ) → IsOrderly s → x ≡ current (stack s q) → IfSome x (λ c. is_object (entry s q c) ≡ true)
opened_object s q (Some c) o e = is_opened s q c o (sym e)
opened_object s q None o e = tt

pub calling_object : (s : State) (q : ℕ) (x : Option ℕ) → IsOrderly s → x ≡ calling (stack s q) → IfSome x (λ c. is_object (entry s q c) ≡ true)
calling_object s q (Some c) o e = is_calling s q c o (sym e)
calling_object s q None o e = tt

-- the current context ends: whatever the claim is then
pub orderly_left : (s : State) (q c n a : ℕ) (r x : Table) (ks p : List ℕ) → IsOrderly s → current (stack s q) ≡ Some c → q < length s.tables → q < length s.stacks →
    n ≡ c → x ≡ record { entries = take n (get_or s.tables q r).entries; claim = a } → p ≡ popped (get_or s.stacks q ks) → IsOrderly (with_stack q p (with_table q x s))
unfolding table stack
orderly_left s q c n a r x ks p o now h h' count is pops =
    let u : State = with_table q x s in
    let cut : x.entries ≡ take c (table s q).entries = cut_entries in
    let rest : p ≡ popped (stack s q) = rest_stack in
    orderly_but s (with_stack q p u) q o (λ v ne. same_tables u q p v ∙ other_tables s q x v ne) (λ v ne. other_stacks u q p v ne ∙ same_stacks s q x v)
    (rw (same_tables u q p q, new_table s q x h, cut) (omega (arith, length-take c (table s q).entries, o.few q)))
    (rw (same_tables u q p q, new_table s q x h, cut) (all_fit_take q c (table s q).entries (o.entries q)))
    (rw (same_tables u q p q, new_table s q x h, new_stack u q p (omega (arith, same_heights s q x)), cut, rest) (contexts_closed (table s q).entries (length (table s q).entries) c (popped (stack s q)) (omega arith) (opened s q c o now)))
  where
    cut_entries : x.entries ≡ take c (table s q).entries
    cut_entries = rw (is, count, get_or_default s.tables q r no_table h) refl

    rest_stack : p ≡ popped (stack s q)
    rest_stack = rw (pops, get_or_default s.stacks q ks [] h') refl

-- an entry fits its table
pub entry_fits : (s : State) (t i : ℕ) (x : Option Entry) → IsOrderly s → x ≡ entry s t i → IfSome x (λ e. fits_table t e ≡ true)
unfolding entry
entry_fits s t i (Some e) o is = all_fit_at t i (table s t).entries e (o.entries t) (sym is)
entry_fits s t i None o is = tt

-- entries, and contexts, stand in the tables
in_list : {X : Type 0} (xs : List X) (i : ℕ) (x : X) → slice_get xs i ≡ Some x → i < length xs
in_list [] i x h = cc
in_list (y ∷ xs) zero x h = omega arith
in_list (y ∷ xs) (suc i) x h = let less = in_list xs i x h in omega arith

below_context : (es : List Entry) (n k c : ℕ) (cs : List ℕ) → are_contexts es n cs ≡ true → slice_get cs k ≡ Some c → c < n
unfolding are_contexts
below_context es n k c [] h e = cc
below_context es n zero c (d ∷ cs) h e =
    let same : d ≡ c = cc in
    rw (← same) (ltb-true d n (and_parts (ltb d n) (is_object (slice_get es d) && are_contexts es d cs) h).0)
below_context es n (suc k) c (d ∷ cs) h e =
    let parts = and_parts (ltb d n) (is_object (slice_get es d) && are_contexts es d cs) h in
    let more = and_parts (is_object (slice_get es d)) (are_contexts es d cs) parts.1 in
    let low : c < d = below_context es d k c cs more.1 e in
    let high : d < n = ltb-true d n parts.0 in
    omega arith

past : {X : Type 0} (xs : List X) (i : ℕ) (d : X) → length xs ≤ i → get_or xs i d ≡ d
past [] i d h = refl
past (x ∷ xs) zero d h = absurd (omega arith)
past (x ∷ xs) (suc i) d h = past xs i d (omega arith)

pub in_tables : (s : State) → length s.tables ≡ 9 → length s.stacks ≡ 9 → IsOrderly s → InTables s
unfolding entry table stack
in_tables s nine each o =
    record {
      entries = λ t i e is.
          let less = in_list (get_or s.tables t no_table).entries i e is in
          let few = o.few t in (
            elim (cases_lt t 9) [
              | inl l ↦ l
              | inr ge ↦ let none = past s.tables t no_table (omega arith) in absurd (omega (arith, rw none at less))
            ],
            omega (arith, less, few),
            all_fit_at t i (get_or s.tables t no_table).entries e (o.entries t) is,
          );
      contexts = λ q k c is.
          let less = below_context (get_or s.tables q no_table).entries (length (get_or s.tables q no_table).entries) k c (get_or s.stacks q []) (o.contexts q) is in
          let few = o.few q in (
            elim (cases_lt q 9) [
              | inl l ↦ l
              | inr ge ↦ let none = past s.stacks q [] (omega arith) in absurd (no_item (get_or s.stacks q []) k c none is)
            ],
            omega (arith, less, few),
          );
    }
  where
    no_item : (xs : List ℕ) (k c : ℕ) → xs ≡ [] → slice_get xs k ≡ Some c → ⊥
    no_item [] k c e h = cc
    no_item (x ∷ xs) k c e h = cc

-- a store that was just made
pub all_default : {X : Type 0} (n i : ℕ) (x : X) → get_or (replicate n x) i x ≡ x
all_default zero i x = refl
all_default (suc n) zero x = refl
all_default (suc n) (suc i) x = all_default n i x

pub orderly_empty : (l : List ℕ) → IsOrderly (empty l)
unfolding empty table stack all_fit are_contexts
orderly_empty l = record { few = λ t. rw (all_default 9 t no_table) (omega arith); entries = λ t. rw (all_default 9 t no_table); contexts = λ q. rw (all_default {X = List ℕ} 9 q []) }

-- what stands at a place of a list, by what a look-up there answers
pub at_none : {X : Type 0} (xs : List X) (i : ℕ) (d : X) → slice_get xs i ≡ None → get_or xs i d ≡ d
at_none [] i d h = refl
at_none (y ∷ xs) zero d h = cc
at_none (y ∷ xs) (suc i) d h = at_none xs i d h

-- making an object of a task's table changes no stack, and its table has one entry more
pub made_stacks : (s u : State) (b : Bool) (t : ℕ) (e : Entry) → u ≡ cond b (add t e s) s → u.stacks ≡ s.stacks
unfolding add overwrite with_table
made_stacks s u true t e h = ap (λ (x : State). x.stacks) h
made_stacks s u false t e h = ap (λ (x : State). x.stacks) h

pub grew : (s u : State) (q : ℕ) (e : Entry) → q < length s.tables → u ≡ add q e s → (table u q ≡ grown (table s q) e) × (stack u q ≡ stack s q)
unfolding add overwrite with_table table stack
grew s u q e h made = (ap (λ (w : State). table w q) made ∙ get_or-set_same s.tables q _ no_table h, ap (λ (w : State). stack w q) made)

-- a context opened whose object was added last
pub entered : (s u : State) (q k i j : ℕ) (r p : List ℕ) → u ≡ add q (new_object s q 0 k 1 (level s q + 1)) s → i ≡ next_index s q → j ≡ q → q < length u.stacks →
    p ≡ i ∷ get_or u.stacks j r → with_stack j p u ≡ enter q k s
unfolding enter add overwrite with_table stack
entered s u q k i j r p made index place inside is = rw (place, new) go
  where
    new : p ≡ i ∷ stack u q
    new = rw (is, place, get_or_default u.stacks q r [] inside) refl

    go : with_stack q (i ∷ stack u q) u ≡ enter q k s
    go = rw (index, made) refl

-- a table to which an entry that takes no bytes was added, if there was room for it
pub taken : (s : State) (t : ℕ) (e : Entry) (r x : Table) → t < length s.tables → takes e ≡ 0 →
    x ≡ cond (has_room (get_or s.tables t r) (takes e)) (grown (get_or s.tables t r) e) (get_or s.tables t r) → with_table t x s ≡ cond (has_room (table s t) 0) (add t e s) s
unfolding add overwrite table with_table
taken s t e r x inside none is = rw after (go (has_room (table s t) 0))
  where
    at : get_or s.tables t r ≡ table s t
    at = get_or_default s.tables t r no_table inside

    after : x ≡ cond (has_room (table s t) 0) (grown (table s t) e) (table s t)
    after = rw none at (is ∙ ap (λ (y : Table). cond (has_room y (takes e)) (grown y e) y) at)

    go : (b : Bool) → with_table t (cond b (grown (table s t) e) (table s t)) s ≡ cond b (add t e s) s
    go true = rw (none, write_run_none s.bytes (block_start t + (table s t).claim)) refl
    go false = ap (λ (ts : List Table). record { tables = ts; stacks = s.stacks; sealed = s.sealed; bytes = s.bytes }) (set-get_or s.tables t no_table)
