use Rattle.mission.specs.Chains.{same}
use Rattle.mission.proofs.Steps.{grows_on}
use Rattle.mission.proofs.chain.follow.Goals as goal
use Rattle.mission.proofs.chain.follow.Goals.{then-contains+in_ok-take_shown, else-contains}

pub loop-other-init : goal.loop-other-init
loop-other-init g c =
    elim c.if-contains.branch [
      | then-contains+in_ok-take_shown w ↦ rw w.steps-is w.take_shown.ensures
      | else-contains w ↦ rw w.steps-is same
    ]

pub returns-in_err-amplify : goal.returns-in_err-amplify
returns-in_err-amplify g c = grows_on _ _ _ _ c.loop-other.invariant c.amplify.ensures

pub returns-in_err-amplify-2 : goal.returns-in_err-amplify-2
returns-in_err-amplify-2 g c = grows_on _ _ _ _ (grows_on _ _ _ _ c.loop-other.invariant c.amplify.ensures) c.amplify-in-loop-other.ensures

pub loop-other-preserved : goal.loop-other-preserved
loop-other-preserved g c = grows_on _ _ _ _ (grows_on _ _ _ _ c.loop-other.invariant c.amplify.ensures) c.amplify-in-loop-other.ensures

pub returns : goal.returns
returns g c = c.loop-other.invariant
