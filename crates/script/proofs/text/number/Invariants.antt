use Rattle.script.proofs.Digits.{Read}
use Rattle.script.proofs.text.number.Given as goal

-- the digits passed write the value
abbrev pub invariant-loop-b : goal.invariant-loop-b
invariant-loop-b l = Read l.text l.b-index l.value
