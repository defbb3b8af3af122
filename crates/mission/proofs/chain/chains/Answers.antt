use Rattle.mission.specs.Chains.{same}
use Rattle.mission.proofs.Steps.{all_obtained, chain_held, chain_rests}
use Rattle.mission.proofs.chain.chains.Goals as goal
use Rattle.mission.proofs.chain.chains.Goals.{then-has+in_ok-take_contexts, else-has}

pub loop-task-init : goal.loop-task-init
loop-task-init g c = rw c.new-steps.ensures.items same

pub loop-task-preserved : goal.loop-task-preserved
loop-task-preserved g c =
    elim c.if-has.branch [
      | then-has+in_ok-take_contexts w ↦ rw w.steps-is (chain_held _ _ c.loop-task.task _ _ (c.has.ensures.set.0 w.if-has.true) c.loop-task.invariant w.take_contexts.ensures)
      | else-has w ↦ rw w.steps-is c.loop-task.invariant
    ]

pub loop-number-init : goal.loop-number-init
loop-number-init g c = c.loop-task.invariant

pub loop-number-preserved : goal.loop-number-preserved
loop-number-preserved g c = chain_rests _ _ _ _ c.loop-number.invariant c.follow.ensures

pub returns-clause-chain : goal.returns-clause-chain
returns-clause-chain g c = c.loop-number.invariant

pub returns-clause-obtained : goal.returns-clause-obtained
returns-clause-obtained g c = all_obtained _ _ _ c.loop-number.invariant
