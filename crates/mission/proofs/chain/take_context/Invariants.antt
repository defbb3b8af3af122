use Rattle.mission.specs.Chains.{Grows, IsHeldBy}
use Rattle.mission.proofs.chain.take_context.Given as goal

abbrev pub invariant-loop-slot : goal.invariant-loop-slot
invariant-loop-slot g l = Grows (λ _ x. IsHeldBy l.store l.task x) l.fn.steps.items l.steps.items
