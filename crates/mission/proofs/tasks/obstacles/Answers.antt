use Rattle.mission.proofs.Betweens.{begins}
use Rattle.mission.proofs.tasks.obstacles.Goals as goal

pub loop-table-init : goal.loop-table-init
loop-table-init c = begins _ _ _ c.new-found.ensures.items

pub loop-table-preserved : goal.loop-table-preserved
loop-table-preserved c = c.in_ok-take_table.ensures
