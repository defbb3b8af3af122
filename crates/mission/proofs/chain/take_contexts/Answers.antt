use Rattle.std.proofs.Common.{sym, ◌∙◌}
use Rattle.mission.specs.Chains.{same}
use Rattle.mission.proofs.Steps.{grows_on, is_open}
use Rattle.mission.proofs.chain.take_contexts.Goals as goal
use Rattle.mission.proofs.chain.take_contexts.Goals.{in-Some+in_ok-take_context, in_default}

pub loop-number-init : goal.loop-number-init
loop-number-init g c = same

pub take_context-requires : goal.take_context-requires
take_context-requires g c = is_open _ c.loop-number.number c.get.result (rw c.get.ensures.value (sym c.context.ensures.value ∙ c.in-Some.is))

pub returns-in_err-take_context : goal.returns-in_err-take_context
returns-in_err-take_context g c = grows_on _ _ _ _ c.loop-number.invariant c.take_context.ensures

pub loop-number-preserved : goal.loop-number-preserved
loop-number-preserved g c =
    elim c.match-context.branch [
      | in-Some+in_ok-take_context w ↦ rw w.steps-is (grows_on _ _ _ _ c.loop-number.invariant w.take_context.ensures)
      | in_default w ↦ rw w.steps-is c.loop-number.invariant
    ]

pub returns : goal.returns
returns g c = c.loop-number.invariant
