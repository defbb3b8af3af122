use Rattle.std.proofs.Common.{◌≡◌, ◌+◌, ◌*◌, ◌<◌, ◌∙◌, Some, arith, rules}
use Rattle.rules.specs.State.{entry}
use Rattle.sharing.specs.Search.{at}
use Rattle.sharing.proofs.Steps.{at_place}
use Rattle.sharing.proofs.Taking.{listed_taken, room}
use Rattle.sharing.proofs.gathering.Gathering.take_word.Goals as goal

there : (g : _) (c : goal.After-sum g) → (at c.args.store.now c.of-position.result ≡ Some c.in-Some.entry) × (c.of-position.result < 576)
there g c =
    let is : entry c.args.store.now c.from-named.result.table c.from-named.result.index ≡ Some c.in-Some.entry = search rules in
    let bound : (c.from-named.result.table < 9) × (c.from-named.result.index < 64) = search rules in
    let number : c.of-position.result ≡ 64 * c.from-named.result.table + c.from-named.result.index = search rules in
    (rw number (at_place c.args.store.now _ _ bound.1 ∙ is), omega (arith, number, bound))

pub take-requires : goal.take-requires
take-requires g c = let h = there g c in room c.args.store.now c.args.self.now c.of-position.result c.in-Some.entry c.sum.result c.requires h.0 h.1

pub returns-in-Some-clause-listed : goal.returns-in-Some-clause-listed
returns-in-Some-clause-listed g c =
    let h = there g c.before in
    rw c.take.ensures (listed_taken c.args.store.now c.args.self.now c.of-position.result c.in-Some.entry c.sum.result c.requires h.0 h.1)
