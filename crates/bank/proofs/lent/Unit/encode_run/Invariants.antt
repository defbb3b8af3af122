use Rattle.std.proofs.Common.{◌≡◌, ℕ, ◌<◌, map, get_or, ◌*◌}
use Rattle.bank.proofs.lent.Unit.encode_run.Given as goal

-- the units of the bytes passed are filled in
abbrev pub invariant-loop-k : goal.invariant-loop-k
invariant-loop-k g l = (k : ℕ) (d : _) → k < 4 * l.k → get_or l.units k d ≡ get_or (map g.Self.Unit.unit_of l.source) k d

abbrev pub invariant-loop-i : goal.invariant-loop-i
invariant-loop-i g l = (k : ℕ) (d : _) → k < l.i → get_or l.units k d ≡ get_or (map g.Self.Unit.unit_of l.source) k d
