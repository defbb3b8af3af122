use Rattle.std.proofs.Common.{◌≡◌, ℕ, ◌+◌, ◌*◌, [], sym, ap, ◌∙◌, arith}
use Rattle.rules.specs.declared.entry.Entry.TheVariants.{Object}
use Rattle.rules.specs.declared.entry.Storage.{Storage}
use Rattle.rules.specs.Effects.{with_table}
use Rattle.rules.specs.State.{State, block_start, table, takes}
use Rattle.tables.specs.Live.{state_of}
use Rattle.store.proofs.Orders.{made_fits, orderly_grown, room_is}
use Rattle.store.proofs.store.Store.make.Goals as goal

pub invariant_of-self-2 : goal.invariant_of-self-2
unfolding with_table table
invariant_of-self-2 g c =
    let s : State = state_of c.self.inside.directory [] in
    let t : ℕ = c.index.result in
    let k : ℕ = c.get-2.result in
    let o : Storage = record { base = c.base.result; bytes = c.get.result; slots = k; kind = c.args.kind; level = c.args.level } in
    let begins : c.start-start.result ≡ block_start t + (table s t).claim =
    rw c.index.ensures.value (c.start-start.ensures.value ∙ ap (λ (x : State). block_start c.args.table + (table x c.args.table).claim) (sym c.self.view_is)) in
    orderly_grown s t (Object o) c.index-tables-index.result c.add.new.self c.self.invariant (omega (arith, c.self.inside.directory.nine)) c.add.ensures.after
    (λ room. made_fits t (table s t).claim (4 * k + c.get.result) k c.start-start.result c.base.result (room_is (table s t) (takes (Object o)) room).1 begins (omega arith))
