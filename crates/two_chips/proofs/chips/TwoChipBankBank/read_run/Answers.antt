use Rattle.std.proofs.Common.{◌≡◌, ℕ, ◌+◌, ◌-◌, ◌<◌, true, false, length, get_or, arith, rules}
use Rattle.bank.proofs.Copies.{one_out}
use Rattle.bank.proofs.RunLaws.{filled_run}
use Rattle.two_chips.specs.Chips.{bytes_of, chips_of}
use Rattle.two_chips.proofs.ChipLaws.{length-bytes_of}
use Rattle.two_chips.proofs.ChipRuns.{found}
use Rattle.two_chips.proofs.chips.TwoChipBankBank.read_run.Goals as goal
use Rattle.two_chips.proofs.chips.TwoChipBankBank.read_run.Goals.{then-from-eq0, else-from-eq0}

pub returns-then-out-eq1 : goal.returns-then-out-eq1
returns-then-out-eq1 c = one_out (bytes_of (chips_of c.args.self.now)) c.args.address c.args.out.now c.read.result (search rules) c.read.ensures

pub returns : goal.returns
returns c =
    let chips = chips_of c.args.self.now in
    let a : ℕ = c.args.address in
    let n : ℕ = length c.args.out.now in
    let f : ℕ = c.bounds-from.result.0 in
    let t : ℕ = c.bounds-from.result.1 in
    let known = c.if-from-eq0.known in
    let long : length known ≡ t - f = search rules in
    let each : (i : ℕ) → i < t - f → get_or known i 0 ≡ get_or (bytes_of chips) (a + i) 0 =
    elim c.if-from-eq0.branch [
      | then-from-eq0 w ↦ found chips a n f t c.div_ceil.result c.div_ceil-2.result true c.bounds-from.ensures.from c.bounds-from.ensures.to (omega arith) (omega arith) (omega arith) known long (rw w.known-is w.interleave.ensures.lead) (rw w.known-is w.interleave.ensures.follow)
      | else-from-eq0 w ↦ found chips a n f t c.div_ceil.result c.div_ceil-2.result false c.bounds-from.ensures.from c.bounds-from.ensures.to (omega arith) (omega arith) (omega arith) known long (rw w.known-is w.interleave-else-from-eq0.ensures.follow) (rw w.known-is w.interleave-else-from-eq0.ensures.lead)
    ] in
    filled_run (bytes_of chips) a n (t - f) known c.fill.new.self (omega (arith, length-bytes_of chips)) long each (search rules)
