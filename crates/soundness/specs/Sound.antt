-- When a store is sound.
use Rattle.std.specs.Prelude.{◌≡◌, ◌⊎◌, ℕ, ◌+◌, ◌-◌, ◌*◌, ◌<◌, ◌≤◌, false, List, [], ◌∷◌, length, Some}
use Rattle.bank.specs.Words.{word_at}
use Rattle.rules.specs.declared.entry.Entry.{Entry}
use Rattle.rules.specs.declared.entry.Entry.TheVariants.{Object, Control, Refined}
use Rattle.rules.specs.declared.entry.Storage.{Storage}
use Rattle.rules.specs.declared.entry.TypeControl.{TypeControl}
use Rattle.rules.specs.declared.entry.Refinement.{Refinement}
use Rattle.rules.specs.declared.descriptor.Descriptor.{Descriptor}
use Rattle.rules.specs.State.{State, table, stack, level, entry, named, block_start, kind_of, level_of}
use Rattle.rules.specs.Tests.{kind_by, level_by}

-- the byte at an address lies in the slots or among the data bytes of a storage object
abbrev pub Takes : Storage → ℕ → Type 0
Takes o a = (o.base ≤ a + 4 * o.slots) × (a < o.base + o.bytes)

-- where slot k of a storage object begins
abbrev pub slot_of : Storage → ℕ → ℕ
slot_of o k = o.base - 4 * (k + 1)

-- a type that users give
abbrev pub IsUserKind : ℕ → Type 0
IsUserKind k = (16 ≤ k) × (k ≤ 255)

-- the type of a storage object: generic, that of contexts, or one that users give
abbrev pub IsKind : ℕ → Type 0
IsKind k = (k ≡ 0) ⊎ ((k ≡ 1) ⊎ IsUserKind k)

-- a refinement of table t lies inside a storage object that is there
pub record Inside (s : State) (t : ℕ) (r : Refinement) : Type 0 where
  pub object : Storage
  pub is_there : entry s r.table r.index ≡ Some (Object object)
  pub bytes_inside : r.byte + r.bytes ≤ object.bytes
  pub slots_inside : r.slot + r.slots ≤ object.slots
  -- which is no context
  pub no_context : (object.kind ≡ 1) → ⊥
  -- does not end before the refinement
  pub no_higher : object.level ≤ r.level
  -- and, from level 1 on, stands in the same table
  pub at_home : 1 ≤ object.level → r.table ≡ t

-- what a slot of an object of table t and level n may name
pub record MayName (s : State) (t n : ℕ) (d : Descriptor) : Type 0 where
  -- no context
  pub no_context : (kind_by (entry s d.table d.index) ≡ 1) → ⊥
  -- no entry that may end before the object
  pub no_higher : level_by (entry s d.table d.index) ≤ n
  -- and no entry of level 1 or more of another table
  pub at_home : 1 ≤ level_by (entry s d.table d.index) → d.table ≡ t

-- the word of such a slot is 0 or names an entry that is there
pub data NullOrLive (s : State) (t n w : ℕ) : Type 0 where
  null : w ≡ 0 → NullOrLive s t n w
  names : (d : Descriptor) → named s w ≡ Some d → MayName s t n d → NullOrLive s t n w

-- entry c of table q is the context of level n
pub record IsContext (s : State) (q n c : ℕ) : Type 0 where
  pub object : Storage
  pub is_there : entry s q c ≡ Some (Object object)
  pub is_context : object.kind ≡ 1
  pub is_level : object.level ≡ n
  -- with the four slots that selectors can name as environments, at most 64, and no data bytes
  pub has_slots : 4 ≤ object.slots
  pub few_slots : object.slots ≤ 64
  pub no_bytes : object.bytes ≡ 0
  -- from level 2 on it is the first entry of that level or a higher one
  pub is_first : 2 ≤ n →
      (i : ℕ) (e : Entry) → i < c → entry s q i ≡ Some e → level_of e < n

-- a stack has the contexts of its levels, down to level 1
abbrev pub AreContexts : State → ℕ → List ℕ → Type 0
AreContexts s q [] = Unit {0}
AreContexts s q (c ∷ cs) = IsContext s q (length cs + 1) c × AreContexts s q cs

-- c is on the stack
pub data In (c : ℕ) : List ℕ → Type 0 where
  here : {cs : List ℕ} → In c (c ∷ cs)
  below : {b : ℕ} {cs : List ℕ} → In c cs → In c (b ∷ cs)

-- the store is sound
pub record Sound (s : State) : Type 0 where
  -- there are nine tables and nine stacks
  pub nine_tables : length s.tables ≡ 9
  pub nine_stacks : length s.stacks ≡ 9
  -- no table has more than 64 entries, or claims more than the 2,048 bytes of its block
  pub few_entries : (t : ℕ) → length (table s t).entries ≤ 64
  pub small_claim : (t : ℕ) → (table s t).claim ≤ 2048
  -- entries stand over a bank that is large enough for all blocks
  pub large_bank : (t i : ℕ) (e : Entry) → entry s t i ≡ Some e → 18432 ≤ length s.bytes
  -- objects lie inside the claimed bytes of their table's block
  pub in_claim : (t i : ℕ) (o : Storage) → entry s t i ≡ Some (Object o) →
      (block_start t + 4 * o.slots ≤ o.base) ×
      (o.base + o.bytes ≤ block_start t + (table s t).claim)
  -- those of a table lie in the order in which they were made
  pub in_order : (t i j : ℕ) (o p : Storage) → i < j →
      entry s t i ≡ Some (Object o) → entry s t j ≡ Some (Object p) →
      o.base + o.bytes + 4 * p.slots ≤ p.base
  -- no two objects share a byte
  pub apart : (t i u j : ℕ) (o p : Storage) (a : ℕ) →
      entry s t i ≡ Some (Object o) → entry s u j ≡ Some (Object p) →
      Takes o a → Takes p a → (t ≡ u) × (i ≡ j)
  -- a refinement lies inside its object
  pub inside : (t i : ℕ) (r : Refinement) → entry s t i ≡ Some (Refined r) → Inside s t r
  -- the type of a storage object is one of those that there are
  pub kinds : (t i : ℕ) (o : Storage) → entry s t i ≡ Some (Object o) → IsKind o.kind
  -- a type control is of a type that users give, and adds rights that there are
  pub controls : (t i : ℕ) (c : TypeControl) → entry s t i ≡ Some (Control c) →
      IsUserKind c.kind × (c.rights ≤ 63)
  -- no entry of level 2 or more stands before one of a lower level
  pub rising : (t i j : ℕ) (e f : Entry) → i < j → entry s t i ≡ Some e → entry s t j ≡ Some f →
      2 ≤ level_of e → level_of e ≤ level_of f
  -- a task has at most 8 levels
  pub few_levels : (q : ℕ) → level s q ≤ 8
  -- no entry of a table has a level above that of the table's task, and table 0 has no task
  pub no_higher : (t i : ℕ) (e : Entry) → entry s t i ≡ Some e → level_of e ≤ level s t
  pub nobody : level s 0 ≡ 0
  -- there is one context for each open level of a task, and no other
  pub contexts : (q : ℕ) → AreContexts s q (stack s q)
  pub no_others : (t i : ℕ) (e : Entry) → entry s t i ≡ Some e → kind_of e ≡ 1 →
      In i (stack s t)
  -- until the store is sealed, no task is above level 1, and all entries but contexts have level 0
  pub loading : s.sealed ≡ false → (t : ℕ) → level s t ≤ 1
  pub loaded : s.sealed ≡ false →
      (t i : ℕ) (e : Entry) → entry s t i ≡ Some e → (kind_of e ≡ 1 → ⊥) → level_of e ≡ 0
  -- each slot of an object that is there holds 0 or the word of an entry that is there
  pub slots : (t i : ℕ) (o : Storage) → entry s t i ≡ Some (Object o) → (k : ℕ) → k < o.slots →
      NullOrLive s t o.level (word_at s.bytes (slot_of o k))
