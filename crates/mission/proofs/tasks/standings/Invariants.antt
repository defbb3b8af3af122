use Rattle.std.proofs.Common.{All}
use Rattle.mission.specs.Standings.{IsStanding}
use Rattle.mission.proofs.tasks.standings.Given as goal

abbrev pub invariant-loop-task : goal.invariant-loop-task
invariant-loop-task g l = All (IsStanding l.store) l.standings.items
