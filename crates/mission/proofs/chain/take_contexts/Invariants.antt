use Rattle.mission.specs.Chains.{Grows, IsHeldBy}
use Rattle.mission.proofs.chain.take_contexts.Given as goal

abbrev pub invariant-loop-number : goal.invariant-loop-number
invariant-loop-number g l = Grows (λ _ x. IsHeldBy l.store l.task x) l.fn.steps.items l.steps.items
