use Rattle.isolation.proofs.Gains.{nothing_gained, nothing_is_gained}
use Rattle.isolation.proofs.list.run.Goals as goal

pub returns-clause-nothing_is_gained : goal.returns-clause-nothing_is_gained
returns-clause-nothing_is_gained g c = nothing_is_gained

pub returns-clause-nothing_gained : goal.returns-clause-nothing_gained
returns-clause-nothing_gained g c = nothing_gained _ c.args.store.now c.run.new.store c.run.result c.run.ensures.made c.run.ensures.cut_off
