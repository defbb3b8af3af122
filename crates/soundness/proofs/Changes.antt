-- What the changes of a store by a call are made of: a slot of an object, an entry added to a
-- table.
use Rattle.std.proofs.Common.{◌≡◌, ◌≢◌, ℕ, ◌+◌, ◌*◌, ◌<◌, ◌≤◌, false, [], ◌∷◌, ◌++◌, length, replicate, Some}
use Rattle.bank.specs.Runs.{write_run}
use Rattle.rules.specs.declared.entry.Entry.{Entry}
use Rattle.rules.specs.declared.entry.Entry.TheVariants.{Object, Control, Refined}
use Rattle.rules.specs.declared.entry.Storage.{Storage}
use Rattle.rules.specs.declared.shown.Place.{Place}
use Rattle.rules.specs.State.{State, table, stack, level, entry, block_start, kind_of, level_of, takes}
use Rattle.soundness.specs.Sound.{Inside, IsKind, IsUserKind}

-- a place is a slot of a storage object that is there
pub record SlotIn (s : State) (l : Place) : Type 0 where
  pub object : Storage
  pub is_there : entry s l.by.owner l.by.object ≡ Some (Object object)
  pub base_is : l.by.base ≡ object.base
  pub level_is : l.by.level ≡ object.level
  pub within : l.by.slot + l.at < object.slots

-- u is s with the entry e added to table t and its bytes cleared; nothing is said of the stack of t
pub record Adds (s u : State) (t : ℕ) (e : Entry) : Type 0 where
  pub tables : length u.tables ≡ length s.tables
  pub stacks : length u.stacks ≡ length s.stacks
  pub sealed : u.sealed ≡ s.sealed
  pub entries : (table u t).entries ≡ (table s t).entries ++ e ∷ []
  pub claim : (table u t).claim ≡ (table s t).claim + takes e
  pub others : (v : ℕ) → v ≢ t → table u v ≡ table s v
  pub other_stacks : (v : ℕ) → v ≢ t → stack u v ≡ stack s v
  pub bytes : u.bytes ≡ write_run s.bytes (block_start t + (table s t).claim) (replicate (takes e) 0)

-- an entry that can be added to table t next: an object lies at the claim and is of a type that
-- there is, a control is of one that users give, a refinement lies inside its object
abbrev pub Ready : State → ℕ → Entry → Type 0
Ready s t (Object o) = (o.base ≡ block_start t + (table s t).claim + 4 * o.slots) × IsKind o.kind
Ready s t (Control c) = IsUserKind c.kind × (c.rights ≤ 63)
Ready s t (Refined r) = Inside s t r

-- there is room for it, and no level falls
pub record Addable (s : State) (t : ℕ) (e : Entry) : Type 0 where
  pub known : t < 9
  pub large : 18432 ≤ length s.bytes
  pub few : length (table s t).entries < 64
  pub room : (table s t).claim + takes e ≤ 2048
  pub ready : Ready s t e
  pub rises : (i : ℕ) (x : Entry) → entry s t i ≡ Some x → 2 ≤ level_of x → level_of x ≤ level_of e

-- e is no context, and the stack of t stays
pub record AddsPlain (s u : State) (t : ℕ) (e : Entry) : Type 0 where
  pub adds : Adds s u t e
  pub addable : Addable s t e
  pub no_context : kind_of e ≢ 1
  pub no_higher : level_of e ≤ level s t
  pub loaded : s.sealed ≡ false → level_of e ≡ 0
  pub same_stack : stack u t ≡ stack s t

-- e is the context of the next level of task t, and becomes the current one
pub record AddsContext (s u : State) (t : ℕ) (e : Entry) : Type 0 where
  pub adds : Adds s u t e
  pub addable : Addable s t e
  pub task : t ≢ 0
  pub is_context : kind_of e ≡ 1
  pub has_slots : (o : Storage) → e ≡ Object o → 4 ≤ o.slots
  pub few_slots : (o : Storage) → e ≡ Object o → o.slots ≤ 64
  pub no_bytes : (o : Storage) → e ≡ Object o → o.bytes ≡ 0
  pub few_levels : level s t < 8
  pub next_level : level_of e ≡ level s t + 1
  pub loading : s.sealed ≡ false → level s t ≡ 0
  pub opened : stack u t ≡ length (table s t).entries ∷ stack s t
