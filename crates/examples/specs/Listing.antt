-- A listing of seven calls on a new store, and what is called after it.
use Rattle.std.specs.Prelude.{◌≡◌, ℕ, List, [], ◌∷◌, Result}
use Rattle.rules.specs.declared.fault.Fault.{Fault}
use Rattle.rules.specs.State.{State, empty}
use Rattle.rules.specs.Effects.{Planned, done}
use Rattle.rules.specs.Loading.{task_plan, place_plan, grant_plan, seal_plan}
use Rattle.rules.specs.Operators.{write_plan, read_plan, call_plan, return_plan, create_plan}

abbrev pub Plan : Type 0 → Type 0
Plan X = State → Result (Planned X) Fault

-- a call in the state s has the outcome x and leaves the state t
abbrev pub Gives : {X : Type 0} → Plan X → State → Result X Fault → State → Type 0
Gives {X} plan s x t = ◌≡◌ {A = Result X Fault × State} (done s (plan s)) (x, t)

-- what a call answers, and the state after it
abbrev pub answer : {X : Type 0} → Plan X → State → Result X Fault
answer plan s = (done s (plan s)).0

abbrev pub after : {X : Type 0} → Plan X → State → State
after plan s = (done s (plan s)).1

-- the state after each of the seven calls; the rights are those of the grant
unfoldable pub tasked : List ℕ → State
tasked l = after (task_plan 1 4) (empty l)

unfoldable pub placed : List ℕ → State
placed l = after (place_plan 1 2 0 0) (tasked l)

unfoldable pub granted : ℕ → List ℕ → State
granted rights l = after (grant_plan 1 0 0 1 1 rights) (placed l)

unfoldable pub begun : ℕ → List ℕ → State
begun rights l = after seal_plan (granted rights l)

unfoldable pub written : ℕ → List ℕ → State
written rights l = after (write_plan 1 0 1 (7 ∷ [])) (begun rights l)

unfoldable pub read_back : ℕ → List ℕ → State
read_back rights l = after (read_plan 1 0 1 1) (written rights l)

unfoldable pub listing : ℕ → List ℕ → State
listing rights l = after (read_plan 1 0 2 1) (read_back rights l)

-- with rights 35, which have delete: the task calls, with nothing as argument, returns nothing and
-- creates an object of one byte
unfoldable pub called : List ℕ → State
called l = after (call_plan 1 4 4) (listing 35 l)

unfoldable pub returned : List ℕ → State
returned l = after (return_plan 1 4) (called l)

unfoldable pub created : List ℕ → State
created l = after (create_plan 1 4 1 0) (returned l)
