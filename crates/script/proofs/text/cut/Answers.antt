use Rattle.std.proofs.Common.{◌≡◌, ℕ, ◌+◌, List, Some, sym, ap, ◌∙◌, rules, tests, arith, length}
use Rattle.std.proofs.lemmas.Iterator.{IsFirst-from_position, YieldsList-from_slice}
use Rattle.std.proofs.lemmas.List.{take_all, take_rest}
use Rattle.script.proofs.Cuts.{First, first_some, first_none, before_is, behind_some, behind_none}
use Rattle.script.proofs.text.cut.Goals as goal

pub returns-in-Some : goal.returns-in-Some
returns-in-Some c =
    let l : List ℕ = c.args.text.now in
    let sep : ℕ = c.args.separator in
    let at : ℕ = c.in-Some.at in
    let found = IsFirst-from_position _ _ c.position.result (λ x. x ≡ sep) (λ x. x ≡ sep → ⊥) c.position.ensures.ran (YieldsList-from_slice l cc) (λ x q k. search (rules, tests)) (λ x q k. search (rules, tests)) in
    let here = rw c.in-Some.is at found in
    let f : First sep l at = first_some sep l at here in
    record {
      front = sym (before_is sep l at f);
      rest = ap Some (take_rest l (at + 1)) ∙ sym (behind_some sep l at f here.0);
    }

pub returns-in-None : goal.returns-in-None
returns-in-None c =
    let l : List ℕ = c.args.text.now in
    let sep : ℕ = c.args.separator in
    let found = IsFirst-from_position _ _ c.position.result (λ x. x ≡ sep) (λ x. x ≡ sep → ⊥) c.position.ensures.ran (YieldsList-from_slice l cc) (λ x q k. search (rules, tests)) (λ x q k. search (rules, tests)) in
    let f : First sep l (length l) = first_none sep l (rw c.in-None.is at found) in
    record {
      front = sym (before_is sep l (length l) f ∙ take_all (length l) l (omega arith));
      rest = sym (behind_none sep l (length l) f (omega arith));
    }
