use Rattle.std.proofs.Common.{◌≡◌, map, take}
use Rattle.runs.specs.Runs.{outcomes, run as run_of}
use Rattle.runs.specs.Requests.{outcome_of, request_of}
use Rattle.runs.proofs.list.run.Given as goal

abbrev pub invariant-loop-request : goal.invariant-loop-request
invariant-loop-request g l =
    (l.store ≡ run_of (map request_of (take l.request-index l.requests)) l.initial.store)
    × (map outcome_of l.outcomes.items ≡ outcomes (map request_of (take l.request-index l.requests)) l.initial.store)
