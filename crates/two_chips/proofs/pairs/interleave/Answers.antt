use Rattle.std.proofs.Common.{◌+◌, ◌-◌, ◌*◌, sym, arith, rules}
use Rattle.two_chips.proofs.PairLaws.{more_interleaved, follows, leads}
use Rattle.two_chips.proofs.pairs.interleave.Goals as goal

pub loop-k-preserved : goal.loop-k-preserved
loop-k-preserved c =
    let more = more_interleaved c.args.lead.now c.args.follow.now c.loop-k.run (32 * c.loop-k.k) (32 * c.loop-k.k + 32 - 32 * c.loop-k.k) (64 * c.loop-k.k) (64 * c.loop-k.k + 64 - 64 * c.loop-k.k) (omega arith) (omega arith) c.loop-k.invariant c.interleave_block.new.run (search rules) (omega arith) (λ j few. c.interleave_block.ensures j (omega arith)) in
    λ i less. more i (omega arith)

pub returns-else-run-blocks : goal.returns-else-run-blocks
returns-else-run-blocks c =
    record {
      lead = sym (leads c.args.lead.now c.args.follow.now c.loop-k.run (32 * c.loop-k.k) c.loop-k.invariant (omega arith) (omega arith) (λ less. absurd (omega arith)));
      follow = sym (follows c.args.lead.now c.args.follow.now c.loop-k.run (32 * c.loop-k.k) c.loop-k.invariant (omega arith) (omega arith));
    }
