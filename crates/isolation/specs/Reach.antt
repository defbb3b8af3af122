-- What a set of tasks obtains, reaches and alters.
use Rattle.std.specs.Prelude.{◌≡◌, ℕ, ◌<◌, true, Some, bit_or}
use Rattle.rules.specs.declared.entry.Entry.TheVariants.{Object, Control, Refined}
use Rattle.rules.specs.declared.entry.Refinement.{Refinement}
use Rattle.rules.specs.declared.entry.Storage.{Storage}
use Rattle.rules.specs.declared.entry.TypeControl.{TypeControl}
use Rattle.rules.specs.declared.descriptor.Descriptor.{Descriptor}
use Rattle.rules.specs.declared.shown.Shown.{Shown}
use Rattle.rules.specs.State.{State, entry, has, held, named, read, shown, stack, type2, write}
use Rattle.rules.specs.Operators.{with_rights}
use Rattle.rules.specs.Tests.{kind_by}
use Rattle.soundness.specs.Sound.{In}

-- a set of tasks
abbrev pub Side : Type 1
Side = ℕ → Type 0

-- slot k of what is shown holds a valid descriptor
abbrev pub HasSlot : State → Shown → ℕ → Descriptor → Type 0
HasSlot s v k d = (k < v.slots) × (named s (held s (record { by = v; at = k })) ≡ Some d)

-- the descriptors that the tasks of a side obtain
pub data Obtains (s : State) (A : Side) : Descriptor → Type 0 where
  -- those in slots of their open contexts
  in_context : (q c k : ℕ) (d : Descriptor) → A q → In c (stack s q) → HasSlot s (shown s q c) k d →
      Obtains s A d
  -- those in slots that are shown by an obtained descriptor with the read right
  in_shown : (e : Descriptor) (k : ℕ) (d : Descriptor) → Obtains s A e → has read e.rights ≡ true →
      HasSlot s (shown s e.table e.index) k d → Obtains s A d
  -- with an obtained type control that has type right 2, each obtained descriptor of its type with
  -- the rights that it adds
  amplified : (c d : Descriptor) (k : TypeControl) → Obtains s A c → has type2 c.rights ≡ true →
      entry s c.table c.index ≡ Some (Control k) → Obtains s A d →
      kind_by (entry s d.table d.index) ≡ k.kind →
      Obtains s A (with_rights (bit_or d.rights k.rights) d)

-- the entries that they reach
pub data Reaches (s : State) (A : Side) : ℕ → ℕ → Type 0 where
  -- their open contexts
  open_context : (q c : ℕ) → A q → In c (stack s q) → Reaches s A q c
  -- each entry that an obtained descriptor names
  named_entry : (d : Descriptor) → Obtains s A d → Reaches s A d.table d.index
  -- the object beneath a refinement that is so named
  beneath : (d : Descriptor) (r : Refinement) → Obtains s A d →
      entry s d.table d.index ≡ Some (Refined r) → Reaches s A r.table r.index

-- the storage objects that they can alter
pub data Alters (s : State) (A : Side) : ℕ → ℕ → Type 0 where
  -- their open contexts
  open_context : (q c : ℕ) → A q → In c (stack s q) → Alters s A q c
  -- each storage object that they obtain with the write right
  written : (d : Descriptor) (o : Storage) → Obtains s A d → has write d.rights ≡ true →
      entry s d.table d.index ≡ Some (Object o) → Alters s A d.table d.index
  -- directly, or by a refinement
  written_beneath : (d : Descriptor) (r : Refinement) → Obtains s A d → has write d.rights ≡ true →
      entry s d.table d.index ≡ Some (Refined r) → Alters s A r.table r.index

-- one task, and all the others together
abbrev pub only : ℕ → Side
only P q = q ≡ P

abbrev pub others : ℕ → Side
others P q = q ≡ P → ⊥
