use Rattle.std.proofs.Common.{◌≡◌, ℕ, ◌-◌, length, replicate, arith, rules}
use Rattle.bank.proofs.RunLaws.{filled_run}
use Rattle.bank.proofs.Bank.read_run.Goals as goal

pub returns : goal.returns
returns g c =
    let n : ℕ = length c.args.out.now in
    let k : ℕ = c.clip-inside.result.1 in
    let zeros : c.fill.new.self ≡ replicate (n - k) 0 = search rules in
    let long : length c.loop-i.known ≡ k = search rules in
    filled_run (g.Self.Bank.bytes c.args.self.now) c.args.address n k c.loop-i.known c.fill.new.self (omega arith) long (λ i less. c.loop-i.invariant i (omega arith)) zeros
