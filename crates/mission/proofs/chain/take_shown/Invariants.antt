use Rattle.mission.specs.Chains.{Grows, RestsOn}
use Rattle.mission.proofs.chain.take_shown.Given as goal

abbrev pub invariant-loop-slot : goal.invariant-loop-slot
invariant-loop-slot g l = Grows (RestsOn l.store) l.fn.steps.items l.steps.items
