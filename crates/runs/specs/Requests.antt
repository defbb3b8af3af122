-- What the values of the code stand for, and what it means that a list of them was run.
use Rattle.std.specs.Prelude.{◌≡◌, ℕ, List, map, take}
use Rattle.rules.specs.Calls.{Outcome}
use Rattle.rules.specs.State.{State}
use Rattle.runs.specs.Runs.{Request, outcomes, run}
use Rattle.runs.specs.declared.request.Outcome.{Outcome as CodedOutcome}
use Rattle.runs.specs.declared.request.Request.{Request as CodedRequest}

abbrev pub request_of : CodedRequest → Request
request_of r = record { call = r.call; bytes = r.bytes.now }

abbrev pub outcome_of : CodedOutcome → Outcome
outcome_of o = record { answer = o.answer; buffer = o.buffer.items }

-- the requests that a list of the code stands for
abbrev pub listed : List CodedRequest → List Request
listed xs = map request_of xs

-- the list was run on a store in state s, which is then in state u
abbrev pub IsRun : List CodedRequest → State → State → Type 0
IsRun xs s u = u ≡ run (listed xs) s

-- memory ran out, and the first of the list were run
abbrev pub IsCutOff : List CodedRequest → State → State → Type 0
IsCutOff xs s u = (n : ℕ) × IsRun (take n xs) s u

-- these are the outcomes of the list, run on a store in state s
abbrev pub AreOutcomes : List CodedRequest → State → List CodedOutcome → Type 0
AreOutcomes xs s os = map outcome_of os ≡ outcomes (listed xs) s
