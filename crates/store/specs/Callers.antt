-- What a call has found of the task that makes it, and of a word.
use Rattle.std.specs.Prelude.{◌≡◌, ℕ, true, Some, None, Option}
use Rattle.rules.specs.State.{State, entry, shown}
use Rattle.rules.specs.declared.descriptor.Descriptor.{Descriptor}
use Rattle.rules.specs.declared.entry.Entry.{Entry}
use Rattle.store.specs.Orderly.{fits_table}
use Rattle.store.specs.declared.operands.Operand.{Operand}
use Rattle.store.specs.declared.operands.Found.{Found}

-- an operand carries what the context that it names shows
abbrev pub Stands : State → Operand → Type 0
Stands s o = shown s o.task o.context ≡ o.here

-- a test of the rules, made of an operand
abbrev pub at : {X : Type 0} → (State → ℕ → ℕ → ℕ → ℕ → X) → State → Operand → X
at test s o = test s o.task o.context o.place o.selector

-- a descriptor was found with the entry that it names, which fits its table
abbrev pub Names : State → Found → Type 0
Names s f = (entry s f.descriptor.table f.descriptor.index ≡ Some f.entry) × (fits_table f.descriptor.table f.entry ≡ true)

abbrev pub descriptor_of : Option Found → Option Descriptor
descriptor_of (Some f) = Some f.descriptor
descriptor_of None = None

abbrev pub entry_of : Option Found → Option Entry
entry_of (Some f) = Some f.entry
entry_of None = None
