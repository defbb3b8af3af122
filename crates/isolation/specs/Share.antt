-- A task's share of a store, and sealed stores.
use Rattle.std.specs.Prelude.{◌≡◌, ℕ, ◌+◌, ◌<◌, ◌≤◌, Bool, true, false, All, List, [], length, Some, Ok, slice_index}
use Rattle.rules.specs.declared.call.Answer.TheVariants.{Done}
use Rattle.rules.specs.declared.call.Call.{Call}
use Rattle.rules.specs.declared.call.Call.TheVariants.{Load as load, Operator as operator}
use Rattle.rules.specs.declared.call.Load.TheVariants.{Seal}
use Rattle.rules.specs.declared.entry.Entry.TheVariants.{Object}
use Rattle.rules.specs.declared.entry.Storage.{Storage}
use Rattle.rules.specs.State.{State, block_start, empty, entry, level, stack, table}
use Rattle.runs.specs.Runs.{Request, outcome_by, run, step}
use Rattle.soundness.specs.Sound.{Takes}
use Rattle.isolation.specs.Reach.{Alters, Reaches, only, others}

-- two stores are alike in the share of task P: the share is its level, its table with the claim,
-- and all that it reaches, entries and bytes
pub record Alike (P : ℕ) (s u : State) : Type 0 where
  pub same_level : level s P ≡ level u P
  pub same_table : table s P ≡ table u P
  pub same_reach : (t i : ℕ) → Reaches s (only P) t i → Reaches u (only P) t i
  pub same_reach_back : (t i : ℕ) → Reaches u (only P) t i → Reaches s (only P) t i
  pub same_entries : (t i : ℕ) → Reaches s (only P) t i → entry s t i ≡ entry u t i
  pub same_bytes : (t i : ℕ) (o : Storage) (a : ℕ) → Reaches s (only P) t i →
      entry s t i ≡ Some (Object o) → Takes o a → slice_index s.bytes a ≡ slice_index u.bytes a

-- an address lies in the share of task P: in the unclaimed bytes of its block, or in an object that
-- it reaches
pub data InShare (P : ℕ) (s : State) (a : ℕ) : Type 0 where
  unclaimed : block_start P + (table s P).claim ≤ a → a < block_start P + 2048 → InShare P s a
  reached : (t i : ℕ) (o : Storage) → Reaches s (only P) t i → entry s t i ≡ Some (Object o) →
      Takes o a → InShare P s a

-- u is s with nothing changed outside the share that task P has in s
pub record ChangesOnlyItsShare (P : ℕ) (s u : State) : Type 0 where
  pub seal : u.sealed ≡ s.sealed
  pub other_tables : (t : ℕ) → (t ≡ P → ⊥) → table u t ≡ table s t
  pub other_contexts : (q : ℕ) → (q ≡ P → ⊥) → stack u q ≡ stack s q
  pub size : length u.bytes ≡ length s.bytes
  pub other_bytes : (a : ℕ) → (InShare P s a → ⊥) → slice_index u.bytes a ≡ slice_index s.bytes a

-- task P is separate: no object that it reaches and that the other tasks together reach can be
-- altered by either side
abbrev pub Separate : ℕ → State → Type 0
Separate P s = (t i : ℕ) → Reaches s (only P) t i → Reaches s (others P) t i →
    ((Alters s (only P) t i → ⊥) × (Alters s (others P) t i → ⊥))

abbrev pub is_load : Call → Bool
is_load (load c) = true
is_load (operator q c) = false

-- the request that seals a store
abbrev pub seal : Request
seal = record { call = load Seal; bytes = [] }

-- what load calls, refused ones among them, and a successful seal make of a store with empty
-- tables, no task and any bytes
pub record IsSealed (s : State) : Type 0 where
  pub bytes : List ℕ
  pub loads : List Request
  pub are_loads : All (λ r. is_load r.call ≡ true) loads
  pub seal_is_made : (outcome_by seal (run loads (empty bytes))).answer ≡ Ok Done
  pub is_it : s ≡ step seal (run loads (empty bytes))
