use borrow.Rule.Slice.PartMut.{put_mid}
use Rattle.std.proofs.Common.{◌+◌, ◌≡◌, ℕ, ◌-◌, min, length, take, replicate, sym, ap, ◌∙◌, arith, rules}
use Rattle.std.proofs.lemmas.List.{length-replicate, take-replicate}
use Rattle.bank.specs.Runs.{write_run}
use Rattle.bank.specs.Units.{used}
use Rattle.bank.proofs.Copies.{copied_in, copied_beside}
use Rattle.bank.proofs.Meanings.{bytes_of-write_run, zero_bytes, map-zeros}
use Rattle.bank.proofs.lent.LentBankBank.clear_run.Goals as goal

pub returns : goal.returns
returns g c =
    let m = c.args.self.now.memory.now in
    let n : ℕ = c.args.count in
    let u = g.U.Unit.unit_of in
    let f : ℕ = c.clip-from.result.0 in
    let k : ℕ = c.clip-from.result.1 in
    let zeros = replicate n (u 0) in
    let few : k ≡ min (length zeros) (c.count.result - f) = rw length-replicate (omega arith) in
    let filled : c.fill.new.self ≡ replicate k (u 0) = c.fill.ensures.after (g.met.U.Unit.clones c.encode.result) ∙ rw c.encode.ensures (ap (λ i. replicate i (u 0)) (search rules)) in
    let part : c.fill.new.self ≡ take k zeros = filled ∙ sym (take-replicate k n (u 0) (omega arith)) in
    let coded : used (put_mid f (f + k - f) m c.fill.new.self) ≡ write_run (used m) c.args.address zeros = copied_in _ m zeros c.args.address c.count.result f k _ c.count.ensures c.clip-from.ensures.from few (omega arith) _ part in
    record {
      means = ap g.U.Unit.bytes_of coded ∙ ap (λ us. g.U.Unit.bytes_of (write_run (used m) c.args.address us)) (sym (map-zeros u n))
          ∙ bytes_of-write_run _ g.U.Unit.byte_of u g.met.U.Unit.back g.U.Unit.bytes_of g.met.U.Unit.bytes_each (used m) c.args.address (replicate n 0) (zero_bytes n);
      memory = record { coded = coded; lent = search rules; rest = copied_beside _ m zeros c.args.address c.count.result f k _ c.count.ensures c.clip-from.ensures.from few (omega arith) _ part };
    }
