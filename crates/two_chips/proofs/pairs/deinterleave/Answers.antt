use Rattle.std.proofs.Common.{◌+◌, ◌-◌, ◌*◌, arith, rules}
use Rattle.two_chips.proofs.PairLaws.{more_deinterleaved, follows, leads}
use Rattle.two_chips.proofs.pairs.deinterleave.Goals as goal

pub loop-k-preserved : goal.loop-k-preserved
loop-k-preserved c =
    let more = more_deinterleaved c.loop-k.lead c.loop-k.follow c.args.run.now (32 * c.loop-k.k) (32 * c.loop-k.k + 32 - 32 * c.loop-k.k) (64 * c.loop-k.k) (64 * c.loop-k.k + 64 - 64 * c.loop-k.k) (omega arith) (omega arith) c.loop-k.invariant c.deinterleave_block.new.lead c.deinterleave_block.new.follow (search rules) (search rules) (omega arith) (omega arith) (λ j few. c.deinterleave_block.ensures j (omega arith)) in
    λ i less. more i (omega arith)

pub returns-else-run-blocks : goal.returns-else-run-blocks
returns-else-run-blocks c =
    record {
      lead = leads c.loop-k.lead c.loop-k.follow c.args.run.now (32 * c.loop-k.k) c.loop-k.invariant (omega arith) (omega arith) (λ less. absurd (omega arith));
      follow = follows c.loop-k.lead c.loop-k.follow c.args.run.now (32 * c.loop-k.k) c.loop-k.invariant (omega arith) (omega arith);
    }
