use Rattle.std.proofs.Common.{◌≡◌}
use Rattle.sharing.specs.Search.{IsListed, tasks_taken}
use Rattle.sharing.proofs.gathering.Gathering.take_contexts.Given as goal

abbrev pub invariant-loop-task : goal.invariant-loop-task
invariant-loop-task g l = (l.self ≡ tasks_taken l.store l.side l.task l.initial.self) × IsListed l.store l.self
