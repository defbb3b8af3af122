use Rattle.std.proofs.Common.{◌≡◌, ℕ, [], Some, arith}
use Rattle.rules.specs.Effects.{with_stack, with_table}
use Rattle.rules.specs.State.{State, stack}
use Rattle.rules.specs.Tests.{current}
use Rattle.tables.specs.Live.{state_of}
use Rattle.store.proofs.Orders.{orderly_left}
use Rattle.store.proofs.store.Store.close.Goals as goal

pub invariant_of-self : goal.invariant_of-self
unfolding with_stack with_table stack
invariant_of-self g c =
    let s : State = state_of c.self.inside.directory [] in
    let q : ℕ = c.index-at.result in
    let now : current (stack s q) ≡ Some c.args.caller.now.context = rw (c.index-at.ensures.value) (rw (← c.self.view_is) at c.requires.opened) in
    orderly_left s q c.args.caller.now.context c.index.result c.claim_before.result c.index-directory-at.result c.cut.new.self c.index-directory-at-2.result c.pop.new.self c.self.invariant now
    (omega (arith, c.self.inside.directory.nine)) (omega (arith, c.self.inside.directory.each)) c.index.ensures.value c.cut.ensures c.pop.ensures
