use Rattle.std.proofs.Common.{sym, ◌∙◌}
use Rattle.bank.specs.Units.{used}
use Rattle.bank.proofs.Meanings.{length-bytes_of}
use Rattle.bank.proofs.UnitLaws.{length-used}
use Rattle.bank.proofs.lent.LentBankBank.size.Goals as goal

pub returns : goal.returns
returns g c =
    let m = c.args.self.now.memory.now in
    c.count.ensures ∙ sym (length-bytes_of _ g.U.Unit.byte_of g.U.Unit.unit_of g.met.U.Unit.back g.U.Unit.bytes_of g.met.U.Unit.bytes_each (used m) ∙ length-used m)
