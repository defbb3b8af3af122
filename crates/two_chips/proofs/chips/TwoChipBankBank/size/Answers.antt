use Rattle.std.proofs.Common.{sym, ◌∙◌}
use Rattle.two_chips.specs.Chips.{chips_of}
use Rattle.two_chips.proofs.ChipLaws.{length-bytes_of}
use Rattle.two_chips.proofs.chips.TwoChipBankBank.size.Goals as goal

pub returns : goal.returns
returns c = c.len.ensures ∙ sym (length-bytes_of (chips_of c.args.self.now))
