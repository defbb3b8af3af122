use Rattle.std.proofs.Common.{arith, rules}
use Rattle.bank.proofs.Copies.{encoded_in, encoded_means, encoded_beside}
use Rattle.bank.proofs.lent.LentBankBank.write_run.Goals as goal

pub returns : goal.returns
returns g c =
    record {
      means = encoded_means _ g.U.Unit.byte_of g.U.Unit.unit_of g.met.U.Unit.back g.U.Unit.bytes_of g.met.U.Unit.bytes_each g.U.Unit.units_of g.met.U.Unit.units_each c.args.self.now.memory.now c.args.source.now (λ i. search rules) c.args.address c.count.result c.clip-from.result.0 c.clip-from.result.1 _ c.count.ensures (search rules) (search rules) (omega arith) c.encode_run.new.units c.encode_run.ensures;
      memory = record {
        coded = encoded_in _ g.U.Unit.byte_of g.U.Unit.unit_of g.met.U.Unit.back g.U.Unit.bytes_of g.met.U.Unit.bytes_each g.U.Unit.units_of g.met.U.Unit.units_each c.args.self.now.memory.now c.args.source.now (λ i. search rules) c.args.address c.count.result c.clip-from.result.0 c.clip-from.result.1 _ c.count.ensures (search rules) (search rules) (omega arith) c.encode_run.new.units c.encode_run.ensures;
        lent = search rules;
        rest = encoded_beside _ g.U.Unit.byte_of g.U.Unit.unit_of g.met.U.Unit.back g.U.Unit.bytes_of g.met.U.Unit.bytes_each g.U.Unit.units_of g.met.U.Unit.units_each c.args.self.now.memory.now c.args.source.now (λ i. search rules) c.args.address c.count.result c.clip-from.result.0 c.clip-from.result.1 _ c.count.ensures (search rules) (search rules) (omega arith) c.encode_run.new.units c.encode_run.ensures;
      };
    }
