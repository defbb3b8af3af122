use Rattle.std.proofs.Common.{◌≡◌, ◌+◌, [], ◌∷◌, ◌++◌, map, arith}
use Rattle.std.proofs.lemmas.List.{map-append}
use Rattle.runs.specs.Requests.{outcome_of}
use Rattle.runs.proofs.More.{if_err, then_outcomes, then_run}
use Rattle.runs.proofs.list.run.Goals as goal

pub returns-in_err-push-clause-cut_off : goal.returns-in_err-push-clause-cut_off
returns-in_err-push-clause-cut_off g c =
    if_err c.from_residual-in_err-push.result
    (c.loop-request.request-index + 1, then_run c.args.requests.now c.loop-request.request-index _ (omega arith) c.args.store.now c.loop-request.store c.make.new.store _ c.loop-request.invariant.0 c.in_ok-outcome.ensures.made)

pub loop-request-preserved : goal.loop-request-preserved
loop-request-preserved g c =
    let made = c.in_ok-outcome.ensures.made in
    let before = c.loop-request.invariant in
    let pushed : c.push.new.self.items ≡ c.loop-request.outcomes.items ++ c.in_ok-outcome.outcome ∷ [] = c.in_ok-push.ensures.items in (
      then_run c.args.requests.now c.loop-request.request-index _ (omega arith) c.args.store.now c.loop-request.store c.make.new.store (outcome_of c.in_ok-outcome.outcome) before.0 made,
      rw (pushed, map-append outcome_of c.loop-request.outcomes.items (c.in_ok-outcome.outcome ∷ []))
          (then_outcomes c.args.requests.now c.loop-request.request-index _ (omega arith) c.args.store.now c.loop-request.store c.make.new.store (outcome_of c.in_ok-outcome.outcome) before.0 made (map outcome_of c.loop-request.outcomes.items) before.1),
    )
