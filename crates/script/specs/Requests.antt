-- What the values of the code stand for.
use Rattle.std.specs.Prelude.{[], ◌∷◌}
use Rattle.rules.specs.Calls.{Outcome}
use Rattle.runs.specs.Runs.{Request}
use Rattle.script.specs.declared.line.Line.{Line}
use Rattle.script.specs.declared.outcome.Outcome.{Outcome as CodedOutcome}

abbrev pub request_of : Line → Request
request_of l = record { call = l.call; bytes = l.byte ∷ [] }

abbrev pub outcome_of : CodedOutcome → Outcome
outcome_of o = record { answer = o.answer; buffer = o.byte ∷ [] }
