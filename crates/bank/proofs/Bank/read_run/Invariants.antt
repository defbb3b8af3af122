use Rattle.std.proofs.Common.{◌≡◌, ℕ, ◌+◌, ◌<◌, get_or}
use Rattle.bank.proofs.Bank.read_run.Given as goal

-- each byte passed is the one of its address
abbrev pub invariant-loop-i : goal.invariant-loop-i
invariant-loop-i g l = (k : ℕ) → k < l.i → get_or l.known k 0 ≡ get_or (g.Self.Bank.bytes l.self) (l.address + k) 0
