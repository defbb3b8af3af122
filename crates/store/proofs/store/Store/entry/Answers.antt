use Rattle.std.proofs.Common.{◌≡◌, [], arith}
use Rattle.std.proofs.lemmas.Grind.{common_steps}
use Rattle.std.proofs.lemmas.List.{get_or_default}
use Rattle.rules.specs.State.{State, entry, stack, table}
use Rattle.tables.specs.Live.{state_of}
use Rattle.store.proofs.Orders.{entry_fits, in_tables}
use Rattle.store.proofs.store.Store.entry.Goals as goal

pub returns-clause-fits : goal.returns-clause-fits
unfolding entry table
returns-clause-fits g c =
    let s : State = state_of c.self.inside.directory [] in
    let value : c.entry.result ≡ entry s c.args.table c.args.index = grind (arith, common_steps, get_or_default) in
    entry_fits s c.args.table c.args.index c.entry.result c.self.invariant value

pub returns-clause-in_tables : goal.returns-clause-in_tables
unfolding entry table stack
returns-clause-in_tables g c =
    let s : State = state_of c.self.inside.directory (g.B.Bank.bytes c.self.inside.bank) in
    rw (← c.self.view_is) (in_tables s (omega (arith, c.self.inside.directory.nine)) (omega (arith, c.self.inside.directory.each)) (record { few = c.self.invariant.few; entries = c.self.invariant.entries; contexts = c.self.invariant.contexts }))

pub returns-in_err-get-clause-in_tables : goal.returns-in_err-get-clause-in_tables
unfolding entry table stack
returns-in_err-get-clause-in_tables g c =
    let s : State = state_of c.self.inside.directory (g.B.Bank.bytes c.self.inside.bank) in
    rw (← c.self.view_is) (in_tables s (omega (arith, c.self.inside.directory.nine)) (omega (arith, c.self.inside.directory.each)) (record { few = c.self.invariant.few; entries = c.self.invariant.entries; contexts = c.self.invariant.contexts }))
