use Rattle.std.proofs.Common.{◌≡◌, ℕ, ◌<◌, map, get_or}
use Rattle.bank.proofs.lent.Unit.decode_run.Given as goal

-- the bytes of the units passed are filled in
abbrev pub invariant-loop-i : goal.invariant-loop-i
invariant-loop-i g l = (k : ℕ) → k < l.i → get_or l.out k 0 ≡ get_or (map g.Self.Unit.byte_of l.units) k 0
