use Rattle.std.proofs.Common.{◌*◌}
use Rattle.two_chips.specs.Pairs.{Interleaved}
use Rattle.two_chips.proofs.pairs.interleave.Given as goal

-- the pairs of the blocks passed are moved
abbrev pub invariant-loop-k : goal.invariant-loop-k
invariant-loop-k l = Interleaved (32 * l.k) l.lead l.follow l.run
