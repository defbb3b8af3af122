use Rattle.std.proofs.Common.{◌≡◌}
use Rattle.sharing.specs.Search.{IsListed, nothing_found, searched, tasks_taken}
use Rattle.sharing.proofs.gathering.Gathering.of.Given as goal

abbrev pub invariant-loop-step : goal.invariant-loop-step
invariant-loop-step g l = (l.gathering ≡ searched l.store l.step (tasks_taken l.store l.fn.side 9 nothing_found)) × IsListed l.store l.gathering
