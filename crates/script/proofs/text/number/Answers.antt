use Rattle.std.proofs.Common.{◌≡◌, ◌≤◌, true, false, length, get_or, inl, inr, arith, rules}
use Rattle.std.proofs.lemmas.Bool.Decides.{nat_tests}
use Rattle.std.specs.Char.{is_ascii_digit}
use Rattle.script.proofs.Digits.{read_more, not_digits, number_result, number_none, number_length}
use Rattle.script.proofs.text.number.Goals.{then-is_empty-via-then-is_empty, then-is_empty-via-else-is_empty+then-text-gt-MOST_DIGITS}
use Rattle.script.proofs.text.number.Goals as goal

pub returns-then-is_empty : goal.returns-then-is_empty
returns-then-is_empty c =
    number_length c.args.text.now (elim c.then-is_empty.branch [
      | then-is_empty-via-then-is_empty w ↦ inr (search rules)
      | then-is_empty-via-else-is_empty+then-text-gt-MOST_DIGITS w ↦ inl (omega (arith, w.if-text-gt-MOST_DIGITS.true))
    ])

pub returns-then-not-is_ascii_digit : goal.returns-then-not-is_ascii_digit
returns-then-not-is_ascii_digit c =
    let other : is_ascii_digit (get_or c.args.text.now c.loop-b.b-index 0) ≡ false = search rules in
    number_none c.args.text.now (not_digits c.args.text.now c.loop-b.b-index (omega arith) other)

pub loop-b-preserved : goal.loop-b-preserved
loop-b-preserved c =
    let digit : is_ascii_digit (get_or c.args.text.now c.loop-b.b-index 0) ≡ true = search rules in
    rw c.from.ensures (read_more c.args.text.now c.loop-b.b-index c.loop-b.value c.loop-b.invariant (omega arith) digit)

pub returns : goal.returns
returns c =
    let all : c.loop-b.b-index ≡ length c.args.text.now = omega arith in
    let some : 1 ≤ length c.args.text.now = grind (arith, nat_tests) in
    rw c.ok.ensures.value (number_result c.args.text.now c.loop-b.value (rw all at c.loop-b.invariant) some (omega arith) c.try_from.result c.try_from.ensures)
