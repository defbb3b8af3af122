-- The state of a store, the words in its slots and what they name.
use Rattle.std.specs.Prelude.{ℕ, ◌+◌, ◌-◌, ◌*◌, ◌/◌, ◌%◌, Bool, false, if◌then◌else◌, ◌&&◌, List, [], length, replicate, Some, None, Option, ◌==◌, slice_index_or}
use Rattle.std.specs.List.{slice_get}
use Rattle.std.specs.Option.{is_some}
use Rattle.bank.specs.Words.{word_at}
use Rattle.rules.specs.declared.entry.Entry.{Entry}
use Rattle.rules.specs.declared.entry.Entry.TheVariants.{Object, Control, Refined}
use Rattle.rules.specs.declared.entry.Storage.{Storage}
use Rattle.rules.specs.declared.entry.Refinement.{Refinement}
use Rattle.rules.specs.declared.descriptor.Descriptor.{Descriptor}
use Rattle.rules.specs.declared.shown.Place.{Place}
use Rattle.rules.specs.declared.shown.Shown.{Shown}

-- a table: its live entries in order of making, and how many bytes of its block are taken
pub record Table : Type 0 where
  pub entries : List Entry
  pub claim : ℕ

-- tables 0 to 8; for each of them the indices of its task's open contexts, the current one first;
-- whether the store is sealed; the bytes of its bank
pub record State : Type 0 where
  pub tables : List Table
  pub stacks : List (List ℕ)
  pub sealed : Bool
  pub bytes : List ℕ

abbrev pub no_table : Table
no_table = record { entries = []; claim = 0 }

-- the state of a store that was just made
unfoldable pub empty : List ℕ → State
empty l =
    record { tables = replicate 9 no_table; stacks = replicate 9 []; sealed = false; bytes = l }

-- a table by its number
unfoldable pub table : State → ℕ → Table
table s t = slice_index_or s.tables t no_table

-- the open contexts of a task
unfoldable pub stack : State → ℕ → List ℕ
stack s q = slice_index_or s.stacks q []

-- the level of a task, 0 if it is not loaded
unfoldable pub level : State → ℕ → ℕ
level s q = length (stack s q)

-- an entry by its table and its index there
unfoldable pub entry : State → ℕ → ℕ → Option Entry
entry s t i = slice_get (table s t).entries i

-- where the block of a table begins
abbrev pub block_start : ℕ → ℕ
block_start t = 2048 * t

-- the type of an entry
abbrev pub kind_of : Entry → ℕ
kind_of (Object o) = o.kind
kind_of (Control c) = 2
kind_of (Refined r) = 0

-- the level of an entry
abbrev pub level_of : Entry → ℕ
level_of (Object o) = o.level
level_of (Control c) = 0
level_of (Refined r) = r.level

-- how many bytes of the block an entry takes
abbrev pub takes : Entry → ℕ
takes (Object o) = 4 * o.slots + o.bytes
takes (Control c) = 0
takes (Refined r) = 0

-- bits 0 to 11 the index, 12 to 23 the table, 24 valid, 25 to 30 the rights
unfoldable pub decode : ℕ → Descriptor
decode w = record { table = w / 4096 % 4096; index = w % 4096; rights = w / 33554432 % 64 }

unfoldable pub encode : Descriptor → ℕ
encode d = d.index + d.table * 4096 + 16777216 + d.rights * 33554432

-- bit 24 is set and bit 31 is clear
unfoldable pub valid : ℕ → Bool
valid w = w / 16777216 % 2 == 1 && w / 2147483648 % 2 == 0

-- what a word names; it counts as null unless it is valid and the entry exists
unfoldable pub named : State → ℕ → Option Descriptor
named s w =
    if valid w && is_some (entry s (decode w).table (decode w).index) then Some (decode w) else None

-- the rights, each by the number that stands for it
abbrev pub read : ℕ
read = 1

abbrev pub write : ℕ
write = 2

abbrev pub type1 : ℕ
type1 = 4

abbrev pub type2 : ℕ
type2 = 8

abbrev pub delete : ℕ
delete = 32

-- whether a right, by its number, is among the rights
abbrev pub has : ℕ → ℕ → Bool
has right rights = rights / right % 2 == 1

-- no slots and no data bytes are shown
abbrev pub nothing : Shown
nothing =
    record {
      owner = 0;
      object = 0;
      base = 0;
      byte = 0;
      bytes = 0;
      slot = 0;
      slots = 0;
      level = 0;
    }

-- a storage object shows all that it has
abbrev pub whole : ℕ → ℕ → Storage → Shown
whole t i o =
    record {
      owner = t;
      object = i;
      base = o.base;
      byte = 0;
      bytes = o.bytes;
      slot = 0;
      slots = o.slots;
      level = o.level;
    }

-- a refinement shows its runs of the storage object beneath
abbrev pub part : Refinement → Option Entry → Shown
part r (Some (Object o)) =
    record {
      owner = r.table;
      object = r.index;
      base = o.base;
      byte = r.byte;
      bytes = r.bytes;
      slot = r.slot;
      slots = r.slots;
      level = o.level;
    }
part r (Some (Control c)) = nothing
part r (Some (Refined p)) = nothing
part r None = nothing

-- what an entry shows; a type control shows no slots and no data bytes
abbrev pub shown_by : State → ℕ → ℕ → Option Entry → Shown
shown_by s t i (Some (Object o)) = whole t i o
shown_by s t i (Some (Control c)) = nothing
shown_by s t i (Some (Refined r)) = part r (entry s r.table r.index)
shown_by s t i None = nothing

unfoldable pub shown : State → ℕ → ℕ → Shown
shown s t i = shown_by s t i (entry s t i)

-- where a data byte that is shown lies, and where a slot begins: slot 0 of an object lies four
-- bytes below its base
abbrev pub byte_at : Shown → ℕ → ℕ
byte_at v j = v.base + (v.byte + j)

abbrev pub slot_at : Shown → ℕ → ℕ
slot_at v i = v.base - 4 * (v.slot + i + 1)

-- the word that a slot holds
unfoldable pub held : State → Place → ℕ
held s l = word_at s.bytes (slot_at l.by l.at)
