-- What is marked of what has been found: the entries that are reached, and those that can be
-- altered.
use Rattle.std.specs.Prelude.{◌≡◌, ℕ, zero, suc, ◌<◌, Bool, true, false, if◌then◌else◌, ◌&&◌, ◌||◌, None, Option, Some, replicate, slice_index_or, slice_set}
use Rattle.std.specs.List.{slice_get}
use Rattle.rules.specs.State.{State, has, level, stack, write}
use Rattle.rules.specs.declared.entry.Entry.{Entry}
use Rattle.rules.specs.declared.entry.Entry.TheVariants.{Object, Control, Refined}
use Rattle.sharing.specs.Reached.{place}
use Rattle.sharing.specs.Sides.{is_in}
use Rattle.sharing.specs.Search.{at, found}
use Rattle.sharing.specs.declared.gathering.Gathering.{Gathering}
use Rattle.sharing.specs.declared.reach.Reach.{Reach}
use Rattle.sharing.specs.declared.side.Side.{Side}

-- the entry at place n is reached, and altered if it is so
abbrev pub marked : ℕ → Bool → Reach → Reach
marked n alters r =
    record {
      gathering = r.gathering;
      reached = slice_set r.reached n true;
      altered = if alters then slice_set r.altered n true else r.altered;
    }

-- an obtained entry, and the object beneath
abbrev pub entry_marked : ℕ → Option Entry → ℕ → Reach → Reach
entry_marked n (Some (Object o)) rights r = marked n (has write rights) r
entry_marked n (Some (Control c)) rights r = marked n false r
entry_marked n (Some (Refined p)) rights r =
    marked (place p.table p.index) (has write rights) (marked n false r)
entry_marked n None rights r = marked n false r

-- if it was found
abbrev pub found_marked : State → ℕ → Option ℕ → Reach → Reach
found_marked s n (Some rights) r = entry_marked n (at s n) rights r
found_marked s n None r = r

-- those at the first n places
unfoldable pub named_marked : State → ℕ → Reach → Reach
named_marked s zero r = r
named_marked s (suc n) r =
    found_marked s n (found (named_marked s n r).gathering n) (named_marked s n r)

-- the first n open contexts of a task
abbrev pub context_marked : ℕ → Option ℕ → Reach → Reach
context_marked q (Some c) r = marked (place q c) true r
context_marked q None r = r

unfoldable pub contexts_marked : State → ℕ → ℕ → Reach → Reach
contexts_marked s q zero r = r
contexts_marked s q (suc n) r =
    context_marked q (slice_get (stack s q) n) (contexts_marked s q n r)

-- those of the first n tasks that are of a side
unfoldable pub tasks_marked : State → Side → ℕ → Reach → Reach
tasks_marked s A zero r = r
tasks_marked s A (suc n) r =
    if is_in A n
    then contexts_marked s n (level s n) (tasks_marked s A n r)
    else tasks_marked s A n r

-- nothing is marked
abbrev pub nothing_marked : Gathering → Reach
nothing_marked g =
    record { gathering = g; reached = replicate 576 false; altered = replicate 576 false }

-- the entry at a place is reached by both, and can be altered by either
abbrev pub meets_at : Reach → Reach → ℕ → Bool
meets_at r u n =
    slice_index_or r.reached n false
    && (slice_index_or u.reached n false
    && (slice_index_or r.altered n false || slice_index_or u.altered n false))

-- there is such an entry
pub record Meets (r u : Reach) : Type 0 where
  pub number : ℕ
  pub below : number < 576
  pub is_met : meets_at r u number ≡ true
