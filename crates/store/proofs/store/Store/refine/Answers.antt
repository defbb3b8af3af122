use Rattle.std.proofs.Common.{◌≡◌, true, Ok, ◌∙◌, rules}
use Rattle.rules.specs.Operators.{has_parts, refine_plan}
use Rattle.rules.specs.State.{State, entry}
use Rattle.rules.specs.Tests.{operator, source, destination}
use Rattle.store.specs.Steps.{refining}
use Rattle.store.proofs.store.Store.refine.Goals as goal

pub returns : goal.returns
unfolding refine_plan refining
returns g c =
    let s : State = c.args.self.now in
    let d = c.in_ok-found.found.descriptor in
    let caller : operator s c.args.task ≡ Ok c.in_ok-caller.caller.context = search rules in
    let found : source s c.args.task c.in_ok-caller.caller.context 1 c.args.source ≡ Ok d = search rules in
    let parts : has_parts (entry s d.table d.index) ≡ true = search rules in
    let place : destination s c.args.task c.in_ok-caller.caller.context 2 c.args.destination ≡ Ok c.in_ok-place.place = search rules in
    let who : c.in_ok-caller.caller.task ≡ c.args.task = search rules in
    c.refine_named.ensures ∙ rw (caller, found, parts, place, who)
