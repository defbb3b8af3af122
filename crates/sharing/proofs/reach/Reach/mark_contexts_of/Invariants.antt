use Rattle.std.proofs.Common.{◌≡◌}
use Rattle.sharing.specs.Marks.{contexts_marked}
use Rattle.sharing.proofs.reach.Reach.mark_contexts_of.Given as goal

abbrev pub invariant-loop-number : goal.invariant-loop-number
invariant-loop-number g l = l.self ≡ contexts_marked l.store l.task l.number l.initial.self
