use Rattle.std.proofs.Common.{◌≡◌, [], arith}
use Rattle.std.proofs.lemmas.Grind.{common_steps}
use Rattle.std.proofs.lemmas.List.{get_or_default}
use Rattle.rules.specs.Operators.{calling}
use Rattle.rules.specs.State.{State, entry, stack, table}
use Rattle.tables.specs.Live.{state_of}
use Rattle.store.proofs.Orders.{calling_object}
use Rattle.store.proofs.store.Store.calling.Goals as goal

pub returns-clause-object : goal.returns-clause-object
unfolding entry stack table
returns-clause-object g c =
    let s : State = state_of c.self.inside.directory [] in
    let value : c.calling.result ≡ calling (stack s c.args.task) = grind (arith, common_steps, get_or_default) in
    rw (← c.self.view_is) (calling_object s c.args.task c.calling.result c.self.invariant value)
