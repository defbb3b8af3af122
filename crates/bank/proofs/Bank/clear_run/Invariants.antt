use Rattle.std.proofs.Common.{◌≡◌, ◌-◌, ◌≤◌, replicate}
use Rattle.bank.specs.Runs.{write_run}
use Rattle.bank.proofs.Bank.clear_run.Given as goal

-- the addresses passed are 0, and they end in time
abbrev pub invariant-loop-at : goal.invariant-loop-at
invariant-loop-at g l =
    (g.Self.Bank.bytes l.self ≡ write_run (g.Self.Bank.bytes l.initial.self) l.address (replicate (l.at - l.address) 0))
    × (l.at - l.address ≤ l.at-end - l.address)
