use Rattle.std.proofs.Common.{◌≡◌, ℕ, ◌≤◌, length, set, sym, ap, ◌∙◌, refl, rules, arith}
use Rattle.std.proofs.lemmas.List.{set_past}
use Rattle.bank.specs.Units.{used}
use Rattle.bank.proofs.Meanings.{length-bytes_of, bytes_of-set}
use Rattle.bank.proofs.UnitLaws.{set-used, set-unused, length-used}
use Rattle.bank.proofs.lent.LentBankBank.write.Goals as goal

pub returns-then-at-count : goal.returns-then-at-count
returns-then-at-count g c =
    let m = c.args.self.now.memory.now in
    let a : ℕ = c.args.address in
    let coded : used (set m a c.encode.result) ≡ set (used m) a (g.U.Unit.unit_of c.args.byte) = set-used m a c.encode.result (omega arith) ∙ ap (set (used m) a) c.encode.ensures in
    record {
      means = ap g.U.Unit.bytes_of coded ∙ bytes_of-set _ g.U.Unit.byte_of g.U.Unit.unit_of g.met.U.Unit.back g.U.Unit.bytes_of g.met.U.Unit.bytes_each (used m) a c.args.byte (search rules);
      memory = record { coded = coded; lent = search rules; rest = set-unused m a c.encode.result (omega arith) };
    }

pub returns-else-at-count : goal.returns-else-at-count
returns-else-at-count g c =
    let m = c.args.self.now.memory.now in
    let a : ℕ = c.args.address in
    let past : length (used m) ≤ a = rw length-used (omega arith) in
    let none = length-bytes_of _ g.U.Unit.byte_of g.U.Unit.unit_of g.met.U.Unit.back g.U.Unit.bytes_of g.met.U.Unit.bytes_each (used m) in
    record {
      means = sym (set_past (g.U.Unit.bytes_of (used m)) a c.args.byte (omega (arith, none)));
      memory = record { coded = sym (set_past (used m) a (g.U.Unit.unit_of c.args.byte) past); lent = refl; rest = refl };
    }
