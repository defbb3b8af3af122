use Rattle.std.proofs.Common.{◌≡◌, ◌<◌, Some, rules}
use Rattle.sharing.specs.Search.{at}
use Rattle.sharing.proofs.Taking.{listed_taken, room}
use Rattle.sharing.proofs.gathering.Gathering.widen.Goals as goal

pub take-requires : goal.take-requires
take-requires g c =
    let is : at c.args.store.now c.args.position ≡ Some c.in-Some.entry = search rules in
    let less : c.args.position < 576 = search rules in
    room c.args.store.now c.args.self.now c.args.position c.in-Some.entry 0 c.requires is less

pub returns-in-Some-clause-listed : goal.returns-in-Some-clause-listed
returns-in-Some-clause-listed g c =
    let is : at c.args.store.now c.args.position ≡ Some c.in-Some.entry = search rules in
    let less : c.args.position < 576 = search rules in
    rw c.take.ensures (listed_taken c.args.store.now c.args.self.now c.args.position c.in-Some.entry 0 c.requires is less)
