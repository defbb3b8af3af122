use Rattle.std.proofs.Common.{rules}
use Rattle.runs.specs.Requests.{outcome_of}
use Rattle.isolation.proofs.Same.{same_lists}
use Rattle.isolation.proofs.watch.are_alike.Goals as goal

pub returns : goal.returns
returns c = rw c.eq.ensures (same_lists _ (λ o. outcome_of o.now) (λ a b. search rules) c.args.left.now c.args.right.now)
