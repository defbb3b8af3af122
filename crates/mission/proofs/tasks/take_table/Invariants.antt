use Rattle.mission.specs.Obstacles.{AreBetween}
use Rattle.mission.proofs.tasks.take_table.Given as goal

abbrev pub invariant-loop-index : goal.invariant-loop-index
invariant-loop-index l = AreBetween l.own l.others l.table l.index l.found.items
