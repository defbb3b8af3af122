use Rattle.std.proofs.Common.{◌≡◌, ℕ, ◌+◌, ◌-◌, ◌/◌, ◌%◌, ◌==◌, ◌≤◌, List, Bool, not, replicate, take, ap, sym, ◌∙◌, refl, arith, rules}
use Rattle.std.proofs.lemmas.List.{length-replicate, take-replicate}
use Rattle.two_chips.specs.Chips.{bytes_of, chips_of}
use Rattle.two_chips.specs.Pairs.{every_other}
use Rattle.two_chips.proofs.ChipRuns.{bytes_of-put_run, written}
use Rattle.two_chips.proofs.PairLaws.{begin, begin_even, begin_not, every_other-zeros}
use Rattle.two_chips.proofs.chips.TwoChipBankBank.clear_run.Goals as goal

-- as many zeros as a chip has of the run
zeros_of : (d : Bool) (k n m : ℕ) (xs : List ℕ) → xs ≡ replicate m 0 → k ≤ n → m ≡ (k + 1 - begin d) / 2 → xs ≡ every_other d (take k (replicate n 0))
zeros_of d k n m xs filled few long = filled ∙ ap (λ (i : ℕ). replicate i 0) long ∙ sym (every_other-zeros d k) ∙ ap (every_other d) (sym (take-replicate k n 0 few))

pub returns : goal.returns
returns c =
    let chips = chips_of c.args.self.now in
    let n : ℕ = c.args.count in
    let f : ℕ = c.bounds-from.result.0 in
    let t : ℕ = c.bounds-from.result.1 in
    let b : Bool = f % 2 == 0 in
    let turn = begin_even f in
    let other = begin_not b in
    let same = written chips c.args.address n f t c.div_ceil.result c.div_ceil-2.result b c.bounds-from.ensures.from c.bounds-from.ensures.to (omega arith) (omega arith) turn (replicate n 0) (length-replicate n 0) c.fill.new.self c.fill-2.new.self (zeros_of b (t - f) n (c.div_ceil-2.result - c.div_ceil.result) c.fill.new.self (search rules) (omega arith) (omega (arith, turn))) (zeros_of (not b) (t - f) n (t / 2 - f / 2) c.fill-2.new.self (search rules) (omega arith) (omega (arith, turn, other))) in
    record {
      means = ap bytes_of same ∙ bytes_of-put_run chips c.args.address (replicate n 0);
      memory = record { chips = same; first_lent = refl; second_lent = refl };
    }
