use Rattle.std.proofs.Common.{[], arith}
use Rattle.rules.specs.Effects.{with_table}
use Rattle.rules.specs.State.{State}
use Rattle.tables.specs.Live.{state_of}
use Rattle.store.proofs.Orders.{orderly_grown, taken}
use Rattle.store.proofs.store.Store.add.Goals as goal

pub invariant_of-self : goal.invariant_of-self
unfolding with_table
invariant_of-self g c =
    let s : State = state_of c.self.inside.directory [] in
    orderly_grown s c.index.result c.args.entry c.index-tables-index.result c.add.new.self c.self.invariant (omega (arith, c.self.inside.directory.nine)) c.add.ensures.after (λ room. rw c.index.ensures.value c.requires.fits)

pub returns-clause-after : goal.returns-clause-after
unfolding with_table
returns-clause-after g c =
    let s : State = state_of c.self.inside.directory (g.B.Bank.bytes c.self.inside.bank) in
    rw (← c.self.view_is, ← c.index.ensures.value) (taken s c.index.result c.args.entry c.index-tables-index.result c.add.new.self (omega (arith, c.self.inside.directory.nine)) c.requires.empty c.add.ensures.after)
