use Rattle.std.proofs.Common.{◌≤◌}
use Rattle.conformance.proofs.main.Given as goal

-- no more differ than were run
abbrev pub invariant-loop-name : goal.invariant-loop-name
invariant-loop-name l = l.differing ≤ l.name-index
