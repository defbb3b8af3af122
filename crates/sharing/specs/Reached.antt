-- What is told of the entries that a side obtains, reaches and can alter.
use Rattle.std.specs.Prelude.{◌≡◌, ◌↔◌, ℕ, ◌+◌, ◌*◌, ◌%◌, Bool, true, false, if◌then◌else◌, ◌&&◌, None, Option, Some, nat_lt, slice_index_or}
use Rattle.rules.specs.Code.{weight}
use Rattle.rules.specs.State.{State, has}
use Rattle.rules.specs.declared.descriptor.Descriptor.{Descriptor}
use Rattle.rules.specs.declared.rights.Right.{Right}
use Rattle.isolation.specs.Reach.{Alters, Obtains, Reaches, Side}
use Rattle.sharing.specs.declared.reach.Reach.{Reach}

-- where an entry stands in a list of all, table by table
abbrev pub place : ℕ → ℕ → ℕ
place t i = 64 * t + i

-- there is such a place
abbrev pub is_place : ℕ → ℕ → Bool
is_place t i = nat_lt t 9 && nat_lt i 64

-- the six rights among those that were found
abbrev pub low : Option ℕ → Option ℕ
low (Some n) = Some (n % 64)
low None = None

-- what is told of an entry
abbrev pub rights_at : Reach → ℕ → ℕ → Option ℕ
rights_at r t i =
    if is_place t i then low (slice_index_or r.gathering.rights (place t i) None) else None

abbrev pub reached_at : Reach → ℕ → ℕ → Bool
reached_at r t i = is_place t i && slice_index_or r.reached (place t i) false

abbrev pub altered_at : Reach → ℕ → ℕ → Bool
altered_at r t i = is_place t i && slice_index_or r.altered (place t i) false

-- a side obtains an entry: a descriptor names it
pub record IsObtained (s : State) (A : Side) (t i : ℕ) : Type 0 where
  pub by : Descriptor
  pub obtained : Obtains s A by
  pub same_table : by.table ≡ t
  pub same_index : by.index ≡ i

-- a side obtains an entry with a right: some descriptor that names it has the right
pub record IsObtainedWith (s : State) (A : Side) (t i right : ℕ) : Type 0 where
  pub by : Descriptor
  pub obtained : Obtains s A by
  pub same_table : by.table ≡ t
  pub same_index : by.index ≡ i
  pub has_right : has right by.rights ≡ true

-- none if the side does not obtain an entry; else of each right whether it is obtained with it
pub data AreRights (s : State) (A : Side) (t i : ℕ) : Option ℕ → Type 0 where
  not_obtained : (IsObtained s A t i → ⊥) → AreRights s A t i None
  obtained_with : (n : ℕ) → IsObtained s A t i →
      ((r : Right) → (has (weight r) n ≡ true) ↔ IsObtainedWith s A t i (weight r)) →
      AreRights s A t i (Some n)

-- all that is told is so
pub record IsReach (s : State) (A : Side) (r : Reach) : Type 0 where
  pub rights : (t i : ℕ) → AreRights s A t i (rights_at r t i)
  pub reaches : (t i : ℕ) → (reached_at r t i ≡ true) ↔ Reaches s A t i
  pub alters : (t i : ℕ) → (altered_at r t i ≡ true) ↔ Alters s A t i
