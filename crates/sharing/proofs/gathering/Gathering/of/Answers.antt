use Rattle.std.proofs.Common.{arith, ◌≡◌, None, ◌∙◌, sym}
use Rattle.std.specs.List.{slice_get}
use Rattle.sharing.specs.Search.{gathered, nothing_found, searched, tasks_taken}
use Rattle.sharing.specs.declared.gathering.Gathering.{Gathering}
use Rattle.sharing.proofs.Steps.{listed_first, searched_all}
use Rattle.sharing.proofs.gathering.Gathering.of.Goals as goal

pub take_contexts-requires : goal.take_contexts-requires
take_contexts-requires g c = rw c.new.ensures (listed_first c.args.store.now)

pub loop-step-init : goal.loop-step-init
unfolding searched tasks_taken
loop-step-init g c = (rw c.new.ensures at c.take_contexts.ensures.value, c.take_contexts.ensures.listed)

pub returns-in_default : goal.returns-in_default
unfolding gathered
returns-in_default g c =
    let s = c.args.store.now in
    let first : Gathering = tasks_taken s c.args.side 9 nothing_found in
    let i = c.loop-step.invariant in
    let none : slice_get (searched s c.loop-step.step first).leads c.loop-step.step ≡ None = rw (← i.0) (sym c.get.ensures.value ∙ c.in_default.is) in
    i.0 ∙ sym (searched_all s first c.loop-step.step c.loop-step.auto.step-end none)

pub returns-after-loop-step : goal.returns-after-loop-step
unfolding gathered
returns-after-loop-step g c =
    let end : c.loop-step.step ≡ 576 = omega (arith, c.loop-step.auto.step-end, c.loop-step-test.false) in
    rw (← end) c.loop-step.invariant.0
