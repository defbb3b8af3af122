use Rattle.two_chips.specs.Pairs.{Interleaved}
use Rattle.two_chips.proofs.pairs.interleave_rest.Given as goal

-- the pairs passed are moved
abbrev pub invariant-loop-i : goal.invariant-loop-i
invariant-loop-i l = Interleaved l.i l.lead l.follow l.run
