use Rattle.mission.proofs.Betweens.{next_entry}
use Rattle.mission.proofs.tasks.take_table.Goals as goal

pub loop-index-preserved : goal.loop-index-preserved
loop-index-preserved c = next_entry _ _ _ _ _ _ c.loop-index.invariant c.in_ok-take_entry.ensures
