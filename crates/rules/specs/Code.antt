-- What the enums of the code stand for.
use Rattle.std.specs.Prelude.{ℕ}
use Rattle.rules.specs.declared.rights.Right.{Right}
use Rattle.rules.specs.declared.rights.Right.TheVariants.{Read, Write, Type1, Type2, Type3, Delete}
use Rattle.rules.specs.State.{read, write, type1, type2, delete}

-- the number of each right
abbrev pub weight : Right → ℕ
weight Read = read
weight Write = write
weight Type1 = type1
weight Type2 = type2
weight Type3 = 16
weight Delete = delete
