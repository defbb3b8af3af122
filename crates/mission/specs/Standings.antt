-- What is told of a task.
use Rattle.rules.specs.State.{State}
use Rattle.isolation.specs.Reach.{only, others}
use Rattle.sharing.specs.Question.{IsAnswer}
use Rattle.sharing.specs.Reached.{IsReach}
use Rattle.mission.specs.Chains.{IsChain}
use Rattle.mission.specs.Obstacles.{AreObstacles}
use Rattle.mission.specs.declared.tasks.Standing.{Standing}

-- all that is told of a task is so
pub record IsStanding (s : State) (x : Standing) : Type 0 where
  pub separate : IsAnswer x.task s x.separate
  pub own : IsReach s (only x.task) x.own
  pub own_steps : IsChain s (only x.task) x.own_steps.items
  pub other_steps : IsChain s (others x.task) x.other_steps.items
  pub obstacles : AreObstacles x.task s x.obstacles.items
