use Rattle.std.proofs.Common.{ℕ, ◌*◌, length, get_or, set, sym, arith}
use Rattle.std.proofs.lemmas.List.{get_or-set_same, length-set}
use Rattle.two_chips.specs.Pairs.{Interleaved}
use Rattle.two_chips.proofs.PairLaws.{follows, leads, last_of_run}
use Rattle.two_chips.proofs.pairs.interleave_rest.Goals as goal

pub returns-then-lead-pairs : goal.returns-then-lead-pairs
returns-then-lead-pairs c =
    let n : ℕ = length c.args.follow.now in
    let x : ℕ = get_or c.args.lead.now n 0 in
    let pairs : Interleaved n c.args.lead.now c.args.follow.now c.loop-i.run = λ j less. c.loop-i.invariant j (omega arith) in
    let turns = last_of_run c.args.lead.now c.args.follow.now c.loop-i.run n pairs x in
    let long = length-set c.loop-i.run (2 * n) x in
    record {
      lead = sym (leads c.args.lead.now c.args.follow.now (set c.loop-i.run (2 * n) x) n turns (omega (arith, long)) (omega arith) (λ less. sym (get_or-set_same c.loop-i.run (2 * n) x 0 (omega arith))));
      follow = sym (follows c.args.lead.now c.args.follow.now (set c.loop-i.run (2 * n) x) n turns (omega (arith, long)) (omega arith));
    }

pub returns-else-lead-pairs : goal.returns-else-lead-pairs
returns-else-lead-pairs c =
    let n : ℕ = length c.args.follow.now in
    let pairs : Interleaved n c.args.lead.now c.args.follow.now c.loop-i.run = λ j less. c.loop-i.invariant j (omega arith) in
    record {
      lead = sym (leads c.args.lead.now c.args.follow.now c.loop-i.run n pairs (omega arith) (omega arith) (λ less. absurd (omega arith)));
      follow = sym (follows c.args.lead.now c.args.follow.now c.loop-i.run n pairs (omega arith) (omega arith));
    }
