use Rattle.std.proofs.Common.{◌≡◌}
use Rattle.sharing.specs.Marks.{tasks_marked}
use Rattle.sharing.proofs.reach.Reach.mark_contexts.Given as goal

abbrev pub invariant-loop-task : goal.invariant-loop-task
invariant-loop-task g l = l.self ≡ tasks_marked l.store l.side l.task l.initial.self
