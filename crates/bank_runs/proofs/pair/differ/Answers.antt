use Rattle.std.proofs.Common.{arith}
use Rattle.bank_runs.proofs.Law.{full_abstraction}
use Rattle.bank_runs.proofs.More.{then_known, then_run}
use Rattle.bank_runs.proofs.pair.differ.Goals as goal

pub returns-in_err-differs-clause-full_abstraction : goal.returns-in_err-differs-clause-full_abstraction
returns-in_err-differs-clause-full_abstraction g c = full_abstraction

pub loop-request-preserved : goal.loop-request-preserved
loop-request-preserved g c =
    let made = c.in_ok-differs.ensures in
    let so_far = c.loop-request.invariant in
    let xs = c.args.requests.now in
    let i = c.loop-request.request-index in (
      then_run xs i _ (omega arith) _ _ _ so_far.0 made.left,
      then_run xs i _ (omega arith) _ _ _ so_far.1 made.right,
      then_known xs i _ (omega arith) _ _ _ _ _ _ so_far.0 so_far.1 so_far.2 made.value,
    )

pub returns-clause-full_abstraction : goal.returns-clause-full_abstraction
returns-clause-full_abstraction g c = full_abstraction
