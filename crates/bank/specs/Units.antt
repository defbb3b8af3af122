-- The units of memory that a bank uses.
use Rattle.std.specs.Prelude.{◌≡◌, List, take, drop}
use Rattle.std.specs.Borrow.{MutBor}

-- of the units lent to it, a bank uses the first 65,536
unfoldable pub used : {X : Type 0} → List X → List X
used l = take 65536 l

-- and leaves the others alone
unfoldable pub unused : {X : Type 0} → List X → List X
unused l = drop 65536 l

-- after a write to lent memory the units used are these, the loan is the same, and the other units
-- are as they were
pub record Rewrites {X : Type 0} (old new : MutBor (List X)) (units : List X) : Type 0 where
  pub coded : used new.now ≡ units
  pub lent : new.ghost_name ≡ old.ghost_name
  pub rest : unused new.now ≡ unused old.now
