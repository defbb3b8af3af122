use Rattle.sharing.proofs.Steps.{listed_added}
use Rattle.sharing.proofs.gathering.Gathering.amplify.Goals as goal

pub widen_all-requires-clause-listed : goal.widen_all-requires-clause-listed
widen_all-requires-clause-listed g c = listed_added c.args.store.now c.args.self.now c.number-kind.result _ c.requires.listed
