use Rattle.rules.specs.State.{stack, table}
use Rattle.store.proofs.store.Store.is_sealed.Goals as goal

pub returns-clause-order : goal.returns-clause-order
unfolding stack table
returns-clause-order g c = rw (← c.self.view_is) (record { few = c.self.invariant.few; entries = c.self.invariant.entries; contexts = c.self.invariant.contexts })
