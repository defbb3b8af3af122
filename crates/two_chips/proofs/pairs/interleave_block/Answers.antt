use Rattle.std.proofs.Common.{◌+◌, ◌-◌, ◌*◌, arith, rules}
use Rattle.two_chips.proofs.PairLaws.{more_interleaved}
use Rattle.two_chips.proofs.pairs.interleave_block.Goals as goal

pub loop-k-preserved : goal.loop-k-preserved
loop-k-preserved c =
    let more = more_interleaved c.args.lead.now c.args.follow.now c.loop-k.run (16 * c.loop-k.k) (16 * c.loop-k.k + 16 - 16 * c.loop-k.k) (32 * c.loop-k.k) (32 * c.loop-k.k + 32 - 32 * c.loop-k.k) (omega arith) (omega arith) c.loop-k.invariant c.interleave_lanes.new.run (search rules) (omega arith) (λ j few. c.interleave_lanes.ensures j (omega arith)) in
    λ i less. more i (omega arith)
