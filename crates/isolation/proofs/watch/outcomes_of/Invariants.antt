use Rattle.std.proofs.Common.{◌≡◌, ◌++◌, map}
use Rattle.runs.specs.Requests.{listed, outcome_of}
use Rattle.isolation.specs.Theorem.{outcomes_of}
use Rattle.isolation.proofs.watch.outcomes_of.Given as goal

abbrev pub invariant-loop-request : goal.invariant-loop-request
invariant-loop-request l =
    map (λ o. outcome_of o.now) l.kept.items ++ outcomes_of l.task (listed l.request-iterator.a.rest.now) (map outcome_of l.request-iterator.b.rest.now) ≡ outcomes_of l.task (listed l.requests) (map outcome_of l.outcomes)
