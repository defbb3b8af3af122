-- How the steps of chains come of each other.
use Rattle.std.specs.Prelude.{◌≡◌, ℕ, true, List, [], ◌∷◌, ◌++◌, Option, Some, bit_or}
use Rattle.std.specs.List.{slice_get}
use Rattle.std.specs.Option.{option_map}
use Rattle.rules.specs.declared.descriptor.Descriptor.{Descriptor}
use Rattle.rules.specs.declared.entry.Entry.TheVariants.{Control}
use Rattle.rules.specs.declared.entry.TypeControl.{TypeControl}
use Rattle.rules.specs.Operators.{with_rights}
use Rattle.rules.specs.State.{State, entry, has, read, shown, stack, type2}
use Rattle.rules.specs.Tests.{kind_by}
use Rattle.soundness.specs.Sound.{In}
use Rattle.isolation.specs.Reach.{HasSlot, Side}
use Rattle.mission.specs.declared.chain.Link.TheVariants.{Context, Shown, Amplified}
use Rattle.mission.specs.declared.chain.Step.{Step}

-- the descriptor of a step by its number
abbrev pub named_at : List Step → ℕ → Option Descriptor
named_at xs n = option_map (λ (x : Step). x.descriptor) (slice_get xs n)

-- a step takes what a slot of an open context of task q holds
pub data IsHeldBy (s : State) (q : ℕ) : Step → Type 0 where
  held : (c k : ℕ) (d : Descriptor) → In c (stack s q) → HasSlot s (shown s q c) k d →
      IsHeldBy s q (record { link = Context q c k; descriptor = d })

-- d is the descriptor e with the rights that a type control adds, which c names with type right 2
pub record Amplifies (s : State) (c e d : Descriptor) : Type 0 where
  pub control : TypeControl
  pub has_right : has type2 c.rights ≡ true
  pub is_control : entry s c.table c.index ≡ Some (Control control)
  pub same_type : kind_by (entry s e.table e.index) ≡ control.kind
  pub sum : d ≡ with_rights (bit_or e.rights control.rights) e

-- a step rests on earlier ones
pub data RestsOn (s : State) (before : List Step) : Step → Type 0 where
  -- what a slot holds that an earlier one with the right to read is shown
  shown_to : (n k : ℕ) (e d : Descriptor) → named_at before n ≡ Some e → has read e.rights ≡ true →
      HasSlot s (shown s e.table e.index) k d →
      RestsOn s before (record { link = Shown n k; descriptor = d })
  -- what an earlier one, a type control, makes of an earlier one
  amplified_by : (m n : ℕ) (c e d : Descriptor) → named_at before m ≡ Some c →
      named_at before n ≡ Some e → Amplifies s c e d →
      RestsOn s before (record { link = Amplified m n; descriptor = d })

-- a step that a side can take, after others
pub data Follows (s : State) (A : Side) (before : List Step) : Step → Type 0 where
  first : (q : ℕ) (x : Step) → A q → IsHeldBy s q x → Follows s A before x
  later : (x : Step) → RestsOn s before x → Follows s A before x

-- steps were added, each of which stands in a relation to those before it
pub data Grows (R : List Step → Step → Type 0) (old : List Step) : List Step → Type 0 where
  same : Grows R old old
  more : (xs : List Step) (x : Step) → Grows R old xs → R xs x → Grows R old (xs ++ x ∷ [])

-- a chain: each step is one that the side can take after those before it
abbrev pub IsChain : State → Side → List Step → Type 0
IsChain s A xs = Grows (Follows s A) [] xs
