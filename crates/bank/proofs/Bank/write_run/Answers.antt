use Rattle.std.proofs.Common.{◌≡◌, ℕ, List, get_or, length, take, sym, ◌∙◌, arith}
use Rattle.std.proofs.lemmas.List.{get_or-take, length-take-le}
use Rattle.bank.proofs.RunLaws.{write_run_none, write_run_more, write_run_inside}
use Rattle.bank.proofs.Bank.write_run.Goals as goal

pub loop-i-init : goal.loop-i-init
loop-i-init g c = sym (write_run_none (g.Self.Bank.bytes c.args.self.now) c.args.address)

pub loop-i-preserved : goal.loop-i-preserved
loop-i-preserved g c =
    let l : List ℕ = g.Self.Bank.bytes c.args.self.now in
    let bs : List ℕ = c.args.source.now in
    let i : ℕ = c.loop-i.i in
    let n : ℕ = c.clip-inside.result.1 in
    let few : length (take n bs) ≡ n = length-take-le n bs (omega arith) in
    let byte : get_or (take n bs) i 0 ≡ get_or bs i 0 = get_or-take n bs i 0 (omega arith) in
    c.write.ensures ∙ rw (c.loop-i.invariant, byte) (sym (write_run_more l c.args.address bs i (omega arith)))

pub returns : goal.returns
returns g c =
    let bs : List ℕ = c.args.source.now in
    let n : ℕ = c.clip-inside.result.1 in
    let few : length (take n bs) ≡ n = length-take-le n bs (omega arith) in
    c.loop-i.invariant ∙ write_run_inside (g.Self.Bank.bytes c.args.self.now) c.args.address bs c.loop-i.i (omega arith) (λ less. omega arith)
