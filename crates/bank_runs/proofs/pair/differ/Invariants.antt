use Rattle.std.proofs.Common.{◌≡◌, ◌↔◌, false, take}
use Rattle.bank_runs.specs.Requests.{IsRun, listed}
use Rattle.bank_runs.specs.Runs.{outcomes}
use Rattle.bank_runs.proofs.pair.differ.Given as goal

-- the calls so far were made on both banks, and it is known whether their outcomes differ
abbrev pub invariant-loop-request : goal.invariant-loop-request
invariant-loop-request g l =
    IsRun (take l.request-index l.requests) (g.A.Bank.bytes l.initial.left) (g.A.Bank.bytes l.left)
    × IsRun (take l.request-index l.requests) (g.B.Bank.bytes l.initial.right) (g.B.Bank.bytes l.right)
    × ((l.differs ≡ false) ↔ (outcomes (listed (take l.request-index l.requests)) (g.A.Bank.bytes l.initial.left) ≡ outcomes (listed (take l.request-index l.requests)) (g.B.Bank.bytes l.initial.right)))
