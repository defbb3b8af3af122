use Rattle.std.proofs.Common.{[]}
use Rattle.store.proofs.Orders.{orderly_empty}
use Rattle.store.proofs.store.Store.new.Goals as goal

pub invariant_of-result : goal.invariant_of-result
invariant_of-result g c = rw (c.new.ensures []) (orderly_empty [])
