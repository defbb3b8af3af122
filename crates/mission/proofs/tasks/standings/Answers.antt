use Rattle.mission.specs.Standings.{IsStanding}
use Rattle.mission.proofs.Lists.{all_more}
use Rattle.mission.proofs.tasks.standings.Goals as goal
use Rattle.mission.proofs.tasks.standings.Goals.{then-level-gt0+in_ok-of_task+in_ok-push, else-level-gt0}

pub loop-task-preserved : goal.loop-task-preserved
loop-task-preserved g c =
    elim c.if-level-gt0.branch [
      | then-level-gt0+in_ok-of_task+in_ok-push w ↦ all_more (IsStanding c.args.store.now) c.loop-task.standings.items c.if-level-gt0.standings.items _ (rw w.standings-is w.in_ok-push.ensures.items) c.loop-task.invariant w.in_ok-of_task.ensures
      | else-level-gt0 w ↦ rw w.standings-is c.loop-task.invariant
    ]
