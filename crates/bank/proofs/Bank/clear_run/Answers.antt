use Rattle.std.proofs.Common.{◌≡◌, ℕ, ◌+◌, ◌-◌, List, sym, ◌∙◌, arith}
use Rattle.bank.proofs.RunLaws.{write_run_none, zeros_more, zeros_inside}
use Rattle.bank.proofs.Bank.clear_run.Goals as goal

pub loop-at-init : goal.loop-at-init
loop-at-init g c =
    let none : c.args.address - c.args.address ≡ 0 = omega arith in
    (rw none (sym (write_run_none (g.Self.Bank.bytes c.args.self.now) c.args.address)), omega arith)

pub loop-at-preserved : goal.loop-at-preserved
loop-at-preserved g c =
    let l : List ℕ = g.Self.Bank.bytes c.args.self.now in
    let a : ℕ = c.args.address in
    let i : ℕ = c.loop-at.at - a in
    let here : a + i ≡ c.loop-at.at = omega arith in
    let next : i + 1 ≡ c.loop-at.at + 1 - a = omega arith in
    (c.write.ensures ∙ rw c.loop-at.invariant.0 (rw (here, next) at (sym (zeros_more l a i))), omega arith)

pub returns : goal.returns
returns g c =
    let l : List ℕ = g.Self.Bank.bytes c.args.self.now in
    let a : ℕ = c.args.address in
    c.loop-at.invariant.0 ∙ zeros_inside l a (c.loop-at.at - a) c.args.count (omega arith) (λ less. omega arith)
