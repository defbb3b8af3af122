use Rattle.std.proofs.Common.{◌≡◌}
use Rattle.sharing.specs.Search.{IsListed, contexts_taken}
use Rattle.sharing.proofs.gathering.Gathering.take_contexts_of.Given as goal

abbrev pub invariant-loop-number : goal.invariant-loop-number
invariant-loop-number g l = (l.self ≡ contexts_taken l.store l.task l.number l.initial.self) × IsListed l.store l.self
