use Rattle.std.proofs.Common.{◌≡◌, refl, arith}
use Rattle.bank.specs.Units.{used}
use Rattle.bank.proofs.Copies.{decoded_whole}
use Rattle.bank.proofs.lent.LentBank.four.Goals as goal

pub returns : goal.returns
returns g c =
    let units : c.used-units.result.now ≡ used c.args.self.now.memory.now = c.used-units.ensures in
    rw units at (decoded_whole _ g.U.Unit.byte_of g.U.Unit.unit_of g.met.U.Unit.back g.U.Unit.bytes_of g.met.U.Unit.bytes_each c.used-units.result.now c.args.address 4 c.args.address 4 (omega arith) (omega arith) refl c.decode_run.new.out c.decode_run.ensures)
