use Rattle.std.proofs.Common.{◌≡◌, length, refl, arith, rules}
use Rattle.bank.specs.Units.{used}
use Rattle.bank.proofs.Copies.{decoded_out, decoded_whole, one_out}
use Rattle.bank.proofs.lent.LentBankBank.read_run.Goals as goal

pub returns-then-out-eq1 : goal.returns-then-out-eq1
returns-then-out-eq1 g c = one_out (g.U.Unit.bytes_of (used c.args.self.now.memory.now)) c.args.address c.args.out.now c.read.result (search rules) c.read.ensures

pub returns-then-at-units : goal.returns-then-at-units
returns-then-at-units g c =
    let units : c.used-units.result.now ≡ used c.args.self.now.memory.now = c.used-units.ensures in
    rw units at (decoded_whole _ g.U.Unit.byte_of g.U.Unit.unit_of g.met.U.Unit.back g.U.Unit.bytes_of g.met.U.Unit.bytes_each c.used-units.result.now c.args.address (length c.args.out.now) c.args.address (length c.args.out.now) (omega arith) (omega arith) refl c.decode_run.new.out c.decode_run.ensures)

pub returns-else-out-units : goal.returns-else-out-units
returns-else-out-units g c =
    let units : c.used-units.result.now ≡ used c.args.self.now.memory.now = c.used-units.ensures in
    rw units at (decoded_out _ g.U.Unit.byte_of g.U.Unit.unit_of g.met.U.Unit.back g.U.Unit.bytes_of g.met.U.Unit.bytes_each c.used-units.result.now c.args.address (length c.args.out.now) c.clip-from.result.0 c.clip-from.result.1 (search rules) (search rules) c.decode_run-else-out-units.new.out c.fill.new.self c.decode_run-else-out-units.ensures (search rules))
