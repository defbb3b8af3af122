use Rattle.std.proofs.Common.{sym, ◌∙◌}
use Rattle.mission.specs.Chains.{same}
use Rattle.mission.proofs.Steps.{amplified_added}
use Rattle.mission.proofs.chain.amplify.Goals as goal

pub returns-in_default : goal.returns-in_default
returns-in_default g c = same

pub returns-in_default-2 : goal.returns-in_default-2
returns-in_default-2 g c = same

pub returns-in_err-take : goal.returns-in_err-take
returns-in_err-take g c =
    amplified_added c.args.store.now c.args.control c.args.source c.in-Some-Some.by c.in-Some-Some.of c.in-Some.descriptor _ _
    (rw (← c.deref.ensures.value) (sym c.descriptor_of.ensures ∙ c.in-Some-Some.is-0))
    (rw (← c.deref-2.ensures.value) (sym c.descriptor_of-2.ensures ∙ c.in-Some-Some.is-1))
    c.in-Some.ensures c.take.ensures

pub returns-in_ok-take : goal.returns-in_ok-take
returns-in_ok-take g c =
    amplified_added c.args.store.now c.args.control c.args.source c.in-Some-Some.by c.in-Some-Some.of c.in-Some.descriptor _ _
    (rw (← c.deref.ensures.value) (sym c.descriptor_of.ensures ∙ c.in-Some-Some.is-0))
    (rw (← c.deref-2.ensures.value) (sym c.descriptor_of-2.ensures ∙ c.in-Some-Some.is-1))
    c.in-Some.ensures c.take.ensures

pub returns-in_default-amplified : goal.returns-in_default-amplified
returns-in_default-amplified g c = same
