use Rattle.std.proofs.Common.{arith, rules}
use Rattle.bank.specs.Words.{word_bytes}
use Rattle.bank.proofs.Copies.{encoded_in, encoded_means, encoded_beside}
use Rattle.bank.proofs.Meanings.{word_bytes-small}
use Rattle.bank.proofs.lent.LentBankBank.write_word.Goals as goal

pub returns-then-at-count : goal.returns-then-at-count
unfolding word_bytes
returns-then-at-count g c =
    record {
      means = encoded_means _ g.U.Unit.byte_of g.U.Unit.unit_of g.met.U.Unit.back g.U.Unit.bytes_of g.met.U.Unit.bytes_each g.U.Unit.units_of g.met.U.Unit.units_each c.args.self.now.memory.now (word_bytes c.args.word) (word_bytes-small c.args.word) c.args.address c.count.result c.args.address 4 _ c.count.ensures (omega arith) (omega arith) (omega arith) c.encode_word.new.units (search rules);
      memory = record {
        coded = encoded_in _ g.U.Unit.byte_of g.U.Unit.unit_of g.met.U.Unit.back g.U.Unit.bytes_of g.met.U.Unit.bytes_each g.U.Unit.units_of g.met.U.Unit.units_each c.args.self.now.memory.now (word_bytes c.args.word) (word_bytes-small c.args.word) c.args.address c.count.result c.args.address 4 _ c.count.ensures (omega arith) (omega arith) (omega arith) c.encode_word.new.units (search rules);
        lent = search rules;
        rest = encoded_beside _ g.U.Unit.byte_of g.U.Unit.unit_of g.met.U.Unit.back g.U.Unit.bytes_of g.met.U.Unit.bytes_each g.U.Unit.units_of g.met.U.Unit.units_each c.args.self.now.memory.now (word_bytes c.args.word) (word_bytes-small c.args.word) c.args.address c.count.result c.args.address 4 _ c.count.ensures (omega arith) (omega arith) (omega arith) c.encode_word.new.units (search rules);
      };
    }
