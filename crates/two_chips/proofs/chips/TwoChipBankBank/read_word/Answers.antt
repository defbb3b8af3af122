use Rattle.std.proofs.Common.{ℕ, ◌+◌, ◌/◌, arith}
use Rattle.bank.specs.Words.{word_at}
use Rattle.two_chips.specs.Chips.{chips_of}
use Rattle.two_chips.proofs.ChipLaws.{in_first, in_second}
use Rattle.two_chips.proofs.chips.TwoChipBankBank.read_word.Goals as goal

pub returns-then-at-eq0 : goal.returns-then-at-eq0
unfolding word_at
returns-then-at-eq0 c =
    let chips = chips_of c.args.self.now in
    let a : ℕ = c.args.address in
    let i : ℕ = c.div_ceil-i.result in
    let j : ℕ = a / 2 in
    let lowest = in_first chips a i (omega arith) (omega arith) (omega arith) in
    let low = in_second chips (a + 1) j (omega arith) (omega arith) (omega arith) in
    let high = in_first chips (a + 2) (i + 1) (omega arith) (omega arith) (omega arith) in
    let highest = in_second chips (a + 3) (j + 1) (omega arith) (omega arith) (omega arith) in
    omega (arith, lowest, low, high, highest)

pub returns-else-at-eq0 : goal.returns-else-at-eq0
unfolding word_at
returns-else-at-eq0 c =
    let chips = chips_of c.args.self.now in
    let a : ℕ = c.args.address in
    let i : ℕ = c.div_ceil-i.result in
    let j : ℕ = a / 2 in
    let lowest = in_second chips a j (omega arith) (omega arith) (omega arith) in
    let low = in_first chips (a + 1) i (omega arith) (omega arith) (omega arith) in
    let high = in_second chips (a + 2) (j + 1) (omega arith) (omega arith) (omega arith) in
    let highest = in_first chips (a + 3) (i + 1) (omega arith) (omega arith) (omega arith) in
    omega (arith, lowest, low, high, highest)
