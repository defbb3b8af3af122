-- The sets of tasks that the code names.
use Rattle.std.specs.Prelude.{ℕ, Bool, not, ◌==◌}
use Rattle.isolation.specs.Reach.{Side, only, others}
use Rattle.sharing.specs.declared.side.Side.{Side as CodedSide}
use Rattle.sharing.specs.declared.side.Side.TheVariants.{Only, Others}

abbrev pub side_of : CodedSide → Side
side_of (Only P) = only P
side_of (Others P) = others P

-- whether a task is one of them
abbrev pub is_in : CodedSide → ℕ → Bool
is_in (Only P) q = q == P
is_in (Others P) q = not (q == P)
