use Rattle.std.proofs.Common.{ℕ, ◌*◌, length, get_or, set, arith}
use Rattle.std.proofs.lemmas.List.{get_or-set_same, length-set}
use Rattle.two_chips.specs.Pairs.{Interleaved}
use Rattle.two_chips.proofs.PairLaws.{follows, leads, last_of_lead}
use Rattle.two_chips.proofs.pairs.deinterleave_rest.Goals as goal

pub returns-then-lead-pairs : goal.returns-then-lead-pairs
returns-then-lead-pairs c =
    let n : ℕ = length c.args.follow.now in
    let x : ℕ = get_or c.args.run.now (2 * n) 0 in
    let pairs : Interleaved n c.loop-i.lead c.loop-i.follow c.args.run.now = λ j less. c.loop-i.invariant j (omega arith) in
    let turns = last_of_lead c.loop-i.lead c.loop-i.follow c.args.run.now n pairs x in
    let long = length-set c.loop-i.lead n x in
    record {
      lead = leads (set c.loop-i.lead n x) c.loop-i.follow c.args.run.now n turns (omega (arith, long)) (omega (arith, long)) (λ less. get_or-set_same c.loop-i.lead n x 0 (omega arith));
      follow = follows (set c.loop-i.lead n x) c.loop-i.follow c.args.run.now n turns (omega arith) (omega arith);
    }

pub returns-else-lead-pairs : goal.returns-else-lead-pairs
returns-else-lead-pairs c =
    let n : ℕ = length c.args.follow.now in
    let pairs : Interleaved n c.loop-i.lead c.loop-i.follow c.args.run.now = λ j less. c.loop-i.invariant j (omega arith) in
    record {
      lead = leads c.loop-i.lead c.loop-i.follow c.args.run.now n pairs (omega arith) (omega arith) (λ less. absurd (omega arith));
      follow = follows c.loop-i.lead c.loop-i.follow c.args.run.now n pairs (omega arith) (omega arith);
    }
