use Rattle.rules.specs.State.{stack, table}
use Rattle.store.proofs.store.Store.seal.Goals as goal

pub invariant_of-self : goal.invariant_of-self
unfolding stack table
invariant_of-self g c = record { few = c.self.invariant.few; entries = c.self.invariant.entries; contexts = c.self.invariant.contexts }
