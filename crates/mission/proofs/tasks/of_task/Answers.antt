use Rattle.mission.proofs.Betweens.{are_obstacles}
use Rattle.mission.proofs.tasks.of_task.Goals as goal

pub returns : goal.returns
returns g c = record {
  separate = c.separate.ensures.answer;
  own = c.of-own.ensures;
  own_steps = c.in_ok-chains.ensures.chain;
  other_steps = c.in_ok-chains-2.ensures.chain;
  obstacles = are_obstacles c.args.task c.args.store.now c.of-own.result c.of-others.result c.of-own.ensures c.of-others.ensures _ c.in_ok-obstacles.ensures;
}
