use Rattle.std.proofs.Common.{◌≡◌, ℕ, set, sym, ap, ◌∙◌, refl, arith}
use Rattle.two_chips.specs.Chips.{Chips, bytes_of, chips_of, put}
use Rattle.two_chips.proofs.ChipLaws.{bytes_of-put, put_inside, put_past, set_even, set_odd}
use Rattle.two_chips.proofs.chips.TwoChipBankBank.write.Goals as goal

-- what is put into the chips means what is written to the bytes
means : (c d : Chips) (a b : ℕ) → d ≡ put c a b → bytes_of d ≡ set (bytes_of c) a b
means c d a b e = ap bytes_of e ∙ bytes_of-put c a b

pub returns-then-at-eq0 : goal.returns-then-at-eq0
returns-then-at-eq0 c =
    let chips = chips_of c.args.self.now in
    let same = sym (put_inside chips c.args.address c.args.byte (omega arith) ∙ set_even chips c.args.address c.args.byte (omega arith)) in
    record {
      means = means chips _ c.args.address c.args.byte same;
      memory = record { chips = same; first_lent = refl; second_lent = refl };
    }

pub returns-else-at-eq0 : goal.returns-else-at-eq0
returns-else-at-eq0 c =
    let chips = chips_of c.args.self.now in
    let same = sym (put_inside chips c.args.address c.args.byte (omega arith) ∙ set_odd chips c.args.address c.args.byte (omega arith)) in
    record {
      means = means chips _ c.args.address c.args.byte same;
      memory = record { chips = same; first_lent = refl; second_lent = refl };
    }

pub returns-else-at-len : goal.returns-else-at-len
returns-else-at-len c =
    let chips = chips_of c.args.self.now in
    let same = sym (put_past chips c.args.address c.args.byte (omega arith)) in
    record {
      means = means chips _ c.args.address c.args.byte same;
      memory = record { chips = same; first_lent = refl; second_lent = refl };
    }
