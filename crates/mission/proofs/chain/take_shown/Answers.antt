use Rattle.std.proofs.Common.{sym, ◌∙◌}
use Rattle.mission.specs.Chains.{same}
use Rattle.mission.proofs.Steps.{shown_added}
use Rattle.mission.proofs.chain.take_shown.Goals as goal
use Rattle.mission.proofs.chain.take_shown.Goals.{in-Some+in_ok-take, in_default}

pub loop-slot-init : goal.loop-slot-init
loop-slot-init g c = same

pub loop-slot-preserved : goal.loop-slot-preserved
loop-slot-preserved g c =
    elim c.match-held.branch [
      | in-Some+in_ok-take w ↦ rw w.steps-is (shown_added c.args.store.now c.args.number c.loop-slot.slot c.shown-by.result c.args.named w.in-Some.descriptor _ _ _ c.requires.is c.requires.reads (rw (← c.get.ensures.value, ← c.get-2.ensures.value) c.shown-by.ensures.value) c.loop-slot-test.true (sym c.held.ensures ∙ w.in-Some.is) c.loop-slot.invariant w.take.ensures)
      | in_default w ↦ rw w.steps-is c.loop-slot.invariant
    ]

pub returns-in_err-take : goal.returns-in_err-take
returns-in_err-take g c =
    shown_added c.args.store.now c.args.number c.loop-slot.slot c.shown-by.result c.args.named c.in-Some.descriptor _ _ _ c.requires.is c.requires.reads (rw (← c.get.ensures.value, ← c.get-2.ensures.value) c.shown-by.ensures.value) c.loop-slot-test.true (sym c.held.ensures ∙ c.in-Some.is) c.loop-slot.invariant c.take.ensures

pub returns : goal.returns
returns g c = c.loop-slot.invariant
