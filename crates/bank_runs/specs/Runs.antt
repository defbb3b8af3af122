-- What becomes of the bytes of a bank by a list of calls.
use Rattle.std.specs.Prelude.{List, [], ◌∷◌, ℕ}
use Rattle.bank_runs.specs.Calls.{Outcome, outcome}
use Rattle.bank_runs.specs.declared.call.Call.{Call}

-- a call of a list, with the bytes beside it
pub record Request : Type 0 where
  pub call : Call
  pub bytes : List ℕ

-- the outcome of a call of a list
abbrev pub outcome_by : Request → List ℕ → Outcome
outcome_by r l = (outcome r.call r.bytes l).0

-- and the bytes after it
abbrev pub step : Request → List ℕ → List ℕ
step r l = (outcome r.call r.bytes l).1

-- the bytes after a list of calls, one after the other
unfoldable pub run : List Request → List ℕ → List ℕ
run [] l = l
run (r ∷ rs) l = run rs (step r l)

-- their outcomes, in order
unfoldable pub outcomes : List Request → List ℕ → List Outcome
outcomes [] l = []
outcomes (r ∷ rs) l = outcome_by r l ∷ outcomes rs (step r l)
