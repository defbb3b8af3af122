-- The order in the tables and the stacks of a store, on which the code of the operators relies.
use Rattle.std.specs.Prelude.{◌≡◌, ℕ, ◌+◌, ◌-◌, ◌*◌, ◌<◌, ◌≤◌, Bool, true, false, ◌&&◌, List, [], ◌∷◌, length, Some, None, Option, nat_le, nat_lt}
use Rattle.std.specs.List.{slice_get}
use Rattle.rules.specs.declared.entry.Entry.{Entry}
use Rattle.rules.specs.declared.entry.Entry.TheVariants.{Object, Control, Refined}
use Rattle.rules.specs.State.{State, block_start, entry, stack, table}

-- the bytes of a storage object of table t begin in its block or at its end; a type control adds
-- rights that there are; a refinement names a place in the tables, and its runs end below 65,536
abbrev pub fits_table : ℕ → Entry → Bool
fits_table t (Object o) = nat_le (block_start t + 4 * o.slots) o.base && nat_le (o.base - 4 * o.slots - block_start t) 2048
fits_table t (Control c) = nat_le c.rights 63
fits_table t (Refined r) =
    nat_lt r.table 9 && nat_lt r.index 64
    && nat_lt (r.byte + r.bytes) 65536 && nat_lt (r.slot + r.slots) 65536

unfoldable pub all_fit : ℕ → List Entry → Bool
all_fit t [] = true
all_fit t (e ∷ es) = fits_table t e && all_fit t es

abbrev pub is_object : Option Entry → Bool
is_object (Some (Object o)) = true
is_object (Some (Control c)) = false
is_object (Some (Refined r)) = false
is_object None = false

-- contexts, the current one first: each is a storage object, and stands below n and below the one opened after it
unfoldable pub are_contexts : List Entry → ℕ → List ℕ → Bool
are_contexts es n [] = true
are_contexts es n (c ∷ cs) = nat_lt c n && (is_object (slice_get es c) && are_contexts es c cs)

pub record IsOrderly (s : State) : Type 0 where
  pub few : (t : ℕ) → length (table s t).entries ≤ 64
  pub entries : (t : ℕ) → all_fit t (table s t).entries ≡ true
  pub contexts : (q : ℕ) → are_contexts (table s q).entries (length (table s q).entries) (stack s q) ≡ true

-- entries stand in the nine tables, 64 in each, and fit them; so do the open contexts of tasks
pub record InTables (s : State) : Type 0 where
  pub entries : (t i : ℕ) (e : Entry) → entry s t i ≡ Some e →
      (t < 9) × (i < 64) × (fits_table t e ≡ true)
  pub contexts : (q k c : ℕ) → slice_get (stack s q) k ≡ Some c → (q < 9) × (c < 64)
