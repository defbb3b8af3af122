use Rattle.mission.specs.Obstacles.{AreBetween}
use Rattle.mission.proofs.tasks.obstacles.Given as goal

abbrev pub invariant-loop-table : goal.invariant-loop-table
invariant-loop-table l = AreBetween l.own l.others l.table 0 l.found.items
