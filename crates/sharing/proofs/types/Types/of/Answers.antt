use Rattle.std.proofs.Common.{◌≡◌, ◌-◌, ◌<◌, ℕ, suc, None, Some, rules, arith}
use Rattle.rules.specs.declared.entry.Entry.TheVariants.{Control}
use Rattle.rules.specs.declared.entry.TypeControl.{TypeControl}
use Rattle.rules.specs.State.{kind_of}
use Rattle.sharing.specs.Search.{at}
use Rattle.sharing.proofs.Chains.{types_none, types_put, types_skip}
use Rattle.sharing.proofs.types.Types.of.Goals as goal

pub loop-number-init : goal.loop-number-init
loop-number-init g c = (types_none c.args.store.now, λ less. absurd (omega arith))

pub loop-number-preserved : goal.loop-number-preserved
loop-number-preserved g c =
    let n : ℕ = 576 - c.loop-number.number in
    let up : 576 - (c.loop-number.number - 1) ≡ suc n = omega arith in
    let place : c.numbered-position.result ≡ 576 - suc n = omega (arith, c.numbered-position.ensures) in
    let none : at c.args.store.now c.numbered-position.result ≡ None = search rules in
    (rw up (types_skip c.args.store.now c.loop-number.types n c.loop-number.invariant.0 (omega arith) (rw place at none)), λ less. c.entry.ensures.in_tables)

pub loop-number-preserved-in-Some : goal.loop-number-preserved-in-Some
loop-number-preserved-in-Some g c =
    let n : ℕ = 576 - c.loop-number.number in
    let up : 576 - (c.loop-number.number - 1) ≡ suc n = omega arith in
    let place : c.numbered-position.result ≡ 576 - suc n = omega (arith, c.numbered-position.ensures) in
    let is : at c.args.store.now c.numbered-position.result ≡ Some c.in-Some.entry = search rules in
    let small : kind_of c.in-Some.entry < 256 = search rules in
    let number : (k : TypeControl) → c.in-Some.entry ≡ Control k → k.kind < 256 = λ k e. search rules in
    (rw (up, c.put_first.ensures, c.kind.ensures, place) (types_put c.args.store.now c.loop-number.types n c.loop-number.invariant.0 (omega arith) c.in-Some.entry (rw place at is) small number), λ less. c.entry.ensures.in_tables)
