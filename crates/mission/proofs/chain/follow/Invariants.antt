use Rattle.mission.specs.Chains.{Grows, RestsOn}
use Rattle.mission.proofs.chain.follow.Given as goal

abbrev pub invariant-loop-other : goal.invariant-loop-other
invariant-loop-other g l = Grows (RestsOn l.store) l.fn.steps.items l.steps.items
