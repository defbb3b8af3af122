-- What becomes of a state by a list of calls.
use Rattle.std.specs.Prelude.{◌≡◌, List, [], ◌∷◌, ℕ}
use Rattle.rules.specs.State.{State}
use Rattle.rules.specs.Calls.{Outcome, outcome}
use Rattle.rules.specs.declared.call.Call.{Call}

-- a call of a list, with the bytes beside it
pub record Request : Type 0 where
  pub call : Call
  pub bytes : List ℕ

-- the call of a request is made in state s, with outcome o, and leaves state u
abbrev pub IsMade : Request → State → Outcome → State → Type 0
IsMade r s o u = ◌≡◌ {A = Outcome × State} (o, u) (outcome r.call r.bytes s)

-- the outcome of a call of a list, and the state after it, refused or not
abbrev pub outcome_by : Request → State → Outcome
outcome_by r s = (outcome r.call r.bytes s).0

abbrev pub step : Request → State → State
step r s = (outcome r.call r.bytes s).1

-- the state after a list of calls, one after the other
unfoldable pub run : List Request → State → State
run [] s = s
run (r ∷ rs) s = run rs (step r s)

-- their outcomes, in order
unfoldable pub outcomes : List Request → State → List Outcome
outcomes [] s = []
outcomes (r ∷ rs) s = outcome_by r s ∷ outcomes rs (step r s)
