-- A list of calls with one call more.
use Rattle.std.proofs.Common.{◌≡◌, ℕ, ◌+◌, ◌<◌, List, [], ◌∷◌, ◌++◌, length, map, take, get_or, Ok, Err, Result, IfErr, refl, ap, ◌∙◌}
use Rattle.std.proofs.lemmas.List.{map-append, take_more}
use Rattle.rules.specs.State.{State}
use Rattle.rules.specs.Calls.{Outcome}
use Rattle.runs.specs.Runs.{IsMade, Request, outcome_by, outcomes, run, step}
use Rattle.runs.specs.Requests.{request_of}
use Rattle.runs.specs.declared.request.Request.{Request as CodedRequest}

module _ (r : Request) where
  pub run_more : (rs : List Request) (s : State) → run (rs ++ r ∷ []) s ≡ step r (run rs s)
  unfolding run
  run_more [] s = refl
  run_more (b ∷ rs) s = run_more rs (step b s)

  outcomes_more : (rs : List Request) (s : State) → outcomes (rs ++ r ∷ []) s ≡ outcomes rs s ++ outcome_by r (run rs s) ∷ []
  unfolding outcomes run
  outcomes_more [] s = refl
  outcomes_more (b ∷ rs) s = ap (λ os. outcome_by b s ∷ os) (outcomes_more rs (step b s))

-- one element more of a list
pub map_more : {X Y : Type 0} (f : X → Y) (xs : List X) (i : ℕ) (d : X) → i < length xs → map f (take (i + 1) xs) ≡ map f (take i xs) ++ f (get_or xs i d) ∷ []
map_more f xs i d less = ap (map f) (take_more xs i d less) ∙ map-append f (take i xs) (get_or xs i d ∷ [])

-- the first i calls were made, and then one more
module _ (xs : List CodedRequest) (i : ℕ) (d : CodedRequest) (less : i < length xs) (s u v : State) (o : Outcome) (so_far : u ≡ run (map request_of (take i xs)) s) (made : IsMade (request_of (get_or xs i d)) u o v) where
  pub then_run : v ≡ run (map request_of (take (i + 1) xs)) s
  then_run = rw (map_more request_of xs i d less, run_more (request_of (get_or xs i d)) (map request_of (take i xs)) s, ← so_far) (ap (λ (x : Outcome × State). x.1) made)

  pub then_outcomes : (os : List Outcome) → os ≡ outcomes (map request_of (take i xs)) s → os ++ o ∷ [] ≡ outcomes (map request_of (take (i + 1) xs)) s
  then_outcomes os e =
      rw (map_more request_of xs i d less, outcomes_more (request_of (get_or xs i d)) (map request_of (take i xs)) s, ← so_far, ← e)
      (ap (λ (x : Outcome × State). os ++ x.0 ∷ []) made)

pub if_err : {X Y P : Type 0} (r : Result X Y) → P → IfErr r (λ _. P)
if_err (Ok x) p = tt
if_err (Err e) p = p
