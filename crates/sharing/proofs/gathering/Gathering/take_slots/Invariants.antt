use Rattle.std.proofs.Common.{◌≡◌}
use Rattle.sharing.specs.Search.{IsListed, slots_taken}
use Rattle.sharing.proofs.gathering.Gathering.take_slots.Given as goal

abbrev pub invariant-loop-at : goal.invariant-loop-at
invariant-loop-at g l = (l.self ≡ slots_taken l.store l.by l.at l.initial.self) × IsListed l.store l.self
