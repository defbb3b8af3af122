use Rattle.std.proofs.Common.{◌*◌}
use Rattle.two_chips.specs.Pairs.{Interleaved}
use Rattle.two_chips.proofs.pairs.interleave_block.Given as goal

-- the pairs of the vectors passed are moved
abbrev pub invariant-loop-k : goal.invariant-loop-k
invariant-loop-k l = Interleaved (16 * l.k) l.lead l.follow l.run
