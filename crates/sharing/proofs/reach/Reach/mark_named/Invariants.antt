use Rattle.std.proofs.Common.{◌≡◌}
use Rattle.sharing.specs.Marks.{named_marked}
use Rattle.sharing.proofs.reach.Reach.mark_named.Given as goal

abbrev pub invariant-loop-number : goal.invariant-loop-number
invariant-loop-number g l = l.self ≡ named_marked l.store l.number l.initial.self
