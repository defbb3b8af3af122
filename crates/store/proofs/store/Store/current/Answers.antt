use Rattle.std.proofs.Common.{◌≡◌, [], arith}
use Rattle.std.proofs.lemmas.Grind.{common_steps}
use Rattle.std.proofs.lemmas.List.{get_or_default}
use Rattle.rules.specs.State.{State, entry, stack, table}
use Rattle.rules.specs.Tests.{current}
use Rattle.tables.specs.Live.{state_of}
use Rattle.store.proofs.Orders.{opened_object}
use Rattle.store.proofs.store.Store.current.Goals as goal

pub returns-clause-object : goal.returns-clause-object
unfolding entry stack table
returns-clause-object g c =
    let s : State = state_of c.self.inside.directory [] in
    let value : c.current.result ≡ current (stack s c.args.task) = grind (arith, common_steps, get_or_default) in
    rw (← c.self.view_is) (opened_object s c.args.task c.current.result c.self.invariant value)
