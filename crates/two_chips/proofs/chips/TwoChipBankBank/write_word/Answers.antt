use Rattle.std.proofs.Common.{◌/◌, ap, ◌∙◌, refl, arith}
use Rattle.bank.specs.Words.{word_bytes}
use Rattle.two_chips.specs.Chips.{bytes_of, chips_of}
use Rattle.two_chips.proofs.ChipRuns.{bytes_of-put_run, four_from_first, four_from_second}
use Rattle.two_chips.proofs.chips.TwoChipBankBank.write_word.Goals as goal

pub returns-then-at-len : goal.returns-then-at-len
unfolding word_bytes
returns-then-at-len c = rw c.to_le_bytes.ensures at c.write_run.ensures

pub returns-then-at-eq0 : goal.returns-then-at-eq0
unfolding word_bytes
returns-then-at-eq0 c =
    let chips = chips_of c.args.self.now in
    let same = four_from_first chips c.args.address c.div_ceil-i.result (c.args.address / 2) _ _ _ _ (omega arith) (omega arith) refl (omega arith) in
    record {
      means = ap bytes_of same ∙ bytes_of-put_run chips c.args.address (word_bytes c.args.word);
      memory = record { chips = same; first_lent = refl; second_lent = refl };
    }

pub returns-else-at-eq0 : goal.returns-else-at-eq0
unfolding word_bytes
returns-else-at-eq0 c =
    let chips = chips_of c.args.self.now in
    let same = four_from_second chips c.args.address c.div_ceil-i.result (c.args.address / 2) _ _ _ _ (omega arith) (omega arith) refl (omega arith) in
    record {
      means = ap bytes_of same ∙ bytes_of-put_run chips c.args.address (word_bytes c.args.word);
      memory = record { chips = same; first_lent = refl; second_lent = refl };
    }
