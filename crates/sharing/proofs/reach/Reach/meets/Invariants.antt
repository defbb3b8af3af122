use Rattle.std.proofs.Common.{◌≡◌, ℕ, ◌<◌, false}
use Rattle.sharing.specs.Marks.{meets_at}
use Rattle.sharing.proofs.reach.Reach.meets.Given as goal

abbrev pub invariant-loop-number : goal.invariant-loop-number
invariant-loop-number l = (k : ℕ) → k < l.number → meets_at l.self l.other k ≡ false
