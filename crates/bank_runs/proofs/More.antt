-- A list of calls with one call more.
use Rattle.std.proofs.Common.{◌≡◌, ◌↔◌, ℕ, ◌+◌, ◌<◌, Bool, true, false, ◌||◌, List, [], ◌∷◌, ◌++◌, length, map, take, get_or, refl, ap, ◌∙◌}
use Rattle.std.proofs.lemmas.List.{map-append, take_more}
use Rattle.bank_runs.specs.Runs.{Request, outcome_by, outcomes, run, step}
use Rattle.bank_runs.specs.Requests.{IsRun, listed, request_of}
use Rattle.bank_runs.specs.declared.request.Request.{Request as CodedRequest}

module _ (r : Request) where
  run_more : (rs : List Request) (l : List ℕ) → run (rs ++ r ∷ []) l ≡ step r (run rs l)
  unfolding run
  run_more [] l = refl
  run_more (b ∷ rs) l = run_more rs (step b l)

  outcomes_more : (rs : List Request) (l : List ℕ) → outcomes (rs ++ r ∷ []) l ≡ outcomes rs l ++ outcome_by r (run rs l) ∷ []
  unfolding outcomes run
  outcomes_more [] l = refl
  outcomes_more (b ∷ rs) l = ap (λ os. outcome_by b l ∷ os) (outcomes_more rs (step b l))

  -- where the outcomes of the longer list are the same, so are those of the shorter and of the last call
  same_before : (rs : List Request) (l m : List ℕ) → outcomes (rs ++ r ∷ []) l ≡ outcomes (rs ++ r ∷ []) m → (outcomes rs l ≡ outcomes rs m) × (outcome_by r (run rs l) ≡ outcome_by r (run rs m))
  unfolding outcomes run
  same_before [] l m e = (refl, cc)
  same_before (b ∷ rs) l m e =
      let rest = same_before rs (step b l) (step b m) cc in
      (cc, rest.1)

-- one element more of a list
map_more : {X Y : Type 0} (f : X → Y) (xs : List X) (i : ℕ) (d : X) → i < length xs → map f (take (i + 1) xs) ≡ map f (take i xs) ++ f (get_or xs i d) ∷ []
map_more f xs i d less = ap (map f) (take_more xs i d less) ∙ map-append f (take i xs) (get_or xs i d ∷ [])

neither : (a b : Bool) → a || b ≡ false → (a ≡ false) × (b ≡ false)
neither true b e = cc
neither false b e = (refl, e)

-- whether the outcomes of two lists differ is known from all calls but the last, and from the last
still_known : (r : Request) (rs : List Request) (l m : List ℕ) (before here : Bool) → ((before ≡ false) ↔ (outcomes rs l ≡ outcomes rs m)) → ((here ≡ false) ↔ (outcome_by r (run rs l) ≡ outcome_by r (run rs m))) → ((before || here ≡ false) ↔ (outcomes (rs ++ r ∷ []) l ≡ outcomes (rs ++ r ∷ []) m))
still_known r rs l m before here p q = (
  λ e.
      let both = neither before here e in
      let first = p.0 both.0 in
      let last = q.0 both.1 in
      rw (outcomes_more r rs l, outcomes_more r rs m, first, last),
  λ e. let parts = same_before r rs l m e in rw (p.1 parts.0, q.1 parts.1),
)

-- the first i calls were made, and then one more
module _ (xs : List CodedRequest) (i : ℕ) (d : CodedRequest) (less : i < length xs) where
  pub then_run : (l u v : List ℕ) → IsRun (take i xs) l u → v ≡ step (request_of (get_or xs i d)) u → IsRun (take (i + 1) xs) l v
  then_run l u v so_far made =
      rw (map_more request_of xs i d less, run_more (request_of (get_or xs i d)) (map request_of (take i xs)) l, ← so_far) made

  pub then_known : (l m u v : List ℕ) (before here : Bool) → IsRun (take i xs) l u → IsRun (take i xs) m v → ((before ≡ false) ↔ (outcomes (listed (take i xs)) l ≡ outcomes (listed (take i xs)) m)) → ((here ≡ false) ↔ (outcome_by (request_of (get_or xs i d)) u ≡ outcome_by (request_of (get_or xs i d)) v)) → ((before || here ≡ false) ↔ (outcomes (listed (take (i + 1) xs)) l ≡ outcomes (listed (take (i + 1) xs)) m))
  then_known l m u v before here on_left on_right p q =
      rw (map_more request_of xs i d less)
      (still_known (request_of (get_or xs i d)) (map request_of (take i xs)) l m before here p (rw (on_left, on_right) at q))
