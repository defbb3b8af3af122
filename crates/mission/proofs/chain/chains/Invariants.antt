use Rattle.sharing.specs.Sides.{side_of}
use Rattle.mission.specs.Chains.{IsChain}
use Rattle.mission.proofs.chain.chains.Given as goal

abbrev pub invariant-loop-task : goal.invariant-loop-task
invariant-loop-task g l = IsChain l.store (side_of l.side) l.steps.items

abbrev pub invariant-loop-number : goal.invariant-loop-number
invariant-loop-number g l = IsChain l.store (side_of l.fn.side) l.steps.items
