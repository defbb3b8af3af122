use Rattle.std.proofs.Common.{rules}
use Rattle.bank.proofs.UnitLaws.{used_least}
use Rattle.bank.proofs.units.used.Goals as goal

pub returns : goal.returns
returns g c = search (rules, used_least)
