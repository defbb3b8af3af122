use Rattle.std.proofs.Common.{◌+◌, ◌-◌, ◌*◌, arith, rules}
use Rattle.two_chips.proofs.PairLaws.{more_deinterleaved}
use Rattle.two_chips.proofs.pairs.deinterleave_block.Goals as goal

pub loop-k-preserved : goal.loop-k-preserved
loop-k-preserved c =
    let more = more_deinterleaved c.loop-k.lead c.loop-k.follow c.args.run.now (8 * c.loop-k.k) (8 * c.loop-k.k + 8 - 8 * c.loop-k.k) (16 * c.loop-k.k) (16 * c.loop-k.k + 16 - 16 * c.loop-k.k) (omega arith) (omega arith) c.loop-k.invariant c.deinterleave_lanes.new.lead c.deinterleave_lanes.new.follow (search rules) (search rules) (omega arith) (omega arith) (λ j few. c.deinterleave_lanes.ensures j (omega arith)) in
    λ i less. more i (omega arith)
