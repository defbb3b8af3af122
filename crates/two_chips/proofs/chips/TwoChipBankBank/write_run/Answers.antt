use Rattle.std.proofs.Common.{true, false, length, ap, ◌∙◌, refl, arith, rules}
use Rattle.two_chips.specs.Chips.{bytes_of, chips_of}
use Rattle.two_chips.proofs.ChipRuns.{bytes_of-put_run, put_run_one, written}
use Rattle.two_chips.proofs.chips.TwoChipBankBank.write_run.Goals as goal

pub returns-then-source-eq1 : goal.returns-then-source-eq1
returns-then-source-eq1 c =
    let chips = chips_of c.args.self.now in
    let same = c.write.ensures.memory.chips ∙ put_run_one chips c.args.address c.args.source.now (search rules) in
    record {
      means = ap bytes_of same ∙ bytes_of-put_run chips c.args.address c.args.source.now;
      memory = record {
        chips = same;
        first_lent = c.write.ensures.memory.first_lent;
        second_lent = c.write.ensures.memory.second_lent;
      };
    }

pub returns-then-from-eq0 : goal.returns-then-from-eq0
returns-then-from-eq0 c =
    let chips = chips_of c.args.self.now in
    let same = written chips c.args.address (length c.args.source.now) c.bounds-from.result.0 c.bounds-from.result.1 c.div_ceil.result c.div_ceil-2.result true c.bounds-from.ensures.from c.bounds-from.ensures.to (omega arith) (omega arith) (omega arith) c.args.source.now refl c.deinterleave.new.lead c.deinterleave.new.follow c.deinterleave.ensures.lead c.deinterleave.ensures.follow in
    record {
      means = ap bytes_of same ∙ bytes_of-put_run chips c.args.address c.args.source.now;
      memory = record { chips = same; first_lent = refl; second_lent = refl };
    }

pub returns-else-from-eq0 : goal.returns-else-from-eq0
returns-else-from-eq0 c =
    let chips = chips_of c.args.self.now in
    let same = written chips c.args.address (length c.args.source.now) c.bounds-from.result.0 c.bounds-from.result.1 c.div_ceil.result c.div_ceil-2.result false c.bounds-from.ensures.from c.bounds-from.ensures.to (omega arith) (omega arith) (omega arith) c.args.source.now refl c.deinterleave-else-from-eq0.new.follow c.deinterleave-else-from-eq0.new.lead c.deinterleave-else-from-eq0.ensures.follow c.deinterleave-else-from-eq0.ensures.lead in
    record {
      means = ap bytes_of same ∙ bytes_of-put_run chips c.args.address c.args.source.now;
      memory = record { chips = same; first_lent = refl; second_lent = refl };
    }
