use Rattle.std.proofs.Common.{◌≡◌, take}
use Rattle.bank.specs.Runs.{write_run}
use Rattle.bank.proofs.Bank.write_run.Given as goal

-- the bytes passed are written
abbrev pub invariant-loop-i : goal.invariant-loop-i
invariant-loop-i g l = g.Self.Bank.bytes l.self ≡ write_run (g.Self.Bank.bytes l.initial.self) l.address (take l.i l.source)
