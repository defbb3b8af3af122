use Rattle.std.proofs.Common.{sym, ◌∙◌, arith}
use Rattle.std.proofs.lemmas.List.{get_or_past}
use Rattle.two_chips.specs.Chips.{bytes_of, chips_of}
use Rattle.two_chips.proofs.ChipLaws.{byte_even, byte_odd, get_or-bytes_of, length-bytes_of}
use Rattle.two_chips.proofs.chips.TwoChipBankBank.read.Goals as goal

pub returns-then-at-len : goal.returns-then-at-len
returns-then-at-len c =
    let chips = chips_of c.args.self.now in
    sym (get_or_past (bytes_of chips) c.args.address 0 (omega (arith, length-bytes_of chips)))

pub returns-then-at-eq0 : goal.returns-then-at-eq0
returns-then-at-eq0 c =
    let chips = chips_of c.args.self.now in
    sym (get_or-bytes_of chips c.args.address (omega arith) ∙ byte_even chips c.args.address (omega arith))

pub returns-else-at-eq0 : goal.returns-else-at-eq0
returns-else-at-eq0 c =
    let chips = chips_of c.args.self.now in
    sym (get_or-bytes_of chips c.args.address (omega arith) ∙ byte_odd chips c.args.address (omega arith))
