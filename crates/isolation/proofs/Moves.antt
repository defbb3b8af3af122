-- What a call of one task does to a store, in the words that matter to the other tasks and to what
-- the task obtains.
use Rattle.std.proofs.Common.{◌≡◌, ◌≢◌, ◌⊎◌, ℕ, ◌+◌, ◌<◌, ◌≤◌, true, length, Some, slice_index}
use Rattle.bank.specs.Words.{word_at}
use Rattle.rules.specs.declared.entry.Entry.{Entry}
use Rattle.rules.specs.declared.entry.Entry.TheVariants.{Object}
use Rattle.rules.specs.declared.entry.Storage.{Storage}
use Rattle.rules.specs.declared.descriptor.Descriptor.{Descriptor}
use Rattle.rules.specs.State.{State, block_start, entry, level_of, named, shown, stack, table}
use Rattle.rules.specs.Operators.{has_parts, refined}
use Rattle.soundness.specs.Sound.{In, Takes, slot_of}
use Rattle.soundness.proofs.Origins.{Given, Source}
use Rattle.isolation.specs.Reach.{Alters, only}

-- the entry that a call adds, if it adds one: a storage object, or a part of what a source of the
-- task shows
pub data New (s : State) (q : ℕ) : Type 0 where
  no_entry : New s q
  new_object : Storage → New s q
  new_part : (f : Descriptor) (byte bytes slot slots : ℕ) → Source s q f → has_parts (entry s f.table f.index) ≡ true → slot + slots ≤ (shown s f.table f.index).slots → New s q

abbrev pub IsEntry : (s : State) (q : ℕ) → New s q → Entry → Type 0
IsEntry s q no_entry x = ⊥
IsEntry s q (new_object o) x = x ≡ Object o
IsEntry s q (new_part f byte bytes slot slots from parts inside) x = (lvl : ℕ) × (x ≡ refined (shown s f.table f.index) byte bytes slot slots lvl)

-- the rights with which a call names the entry that it adds: for a part those of its source
abbrev pub RightsOf : (s : State) (q : ℕ) → New s q → Descriptor → Type 0
RightsOf s q no_entry d = ⊥
RightsOf s q (new_object o) d = Unit {0}
RightsOf s q (new_part f byte bytes slot slots from parts inside) d = d.rights ≡ f.rights

-- the index that the next entry of a table gets
abbrev pub fresh : State → ℕ → ℕ
fresh s q = length (table s q).entries

-- what a call of task q may put into a slot: what the task was given, or a descriptor of the entry
-- that is added
pub data Put (s : State) (q : ℕ) (n : New s q) (d : Descriptor) : Type 0 where
  given : Given s q d → Put s q n d
  of_new : d.table ≡ q → d.index ≡ fresh s q → RightsOf s q n d → Put s q n d

-- a byte that a call of task q may change: one of an object that the task alters, or one that its
-- table has not claimed
pub data MayChange (s : State) (q a : ℕ) : Type 0 where
  altered : (t i : ℕ) (o : Storage) → Alters s (only q) t i → entry s t i ≡ Some (Object o) → Takes o a → MayChange s q a
  unclaimed : block_start q + (table s q).claim ≤ a → a < block_start q + 2048 → MayChange s q a

-- the word of a slot of an object of u: an old word of an old object, or one that may be put
pub data WordOf (s u : State) (q : ℕ) (n : New s q) (t i : ℕ) (o : Storage) (k : ℕ) : Type 0 where
  old_word : entry s t i ≡ Some (Object o) → word_at u.bytes (slot_of o k) ≡ word_at s.bytes (slot_of o k) → WordOf s u q n t i o k
  put_word : ((d : Descriptor) → named u (word_at u.bytes (slot_of o k)) ≡ Some d → Put s q n d) → WordOf s u q n t i o k

-- a call of task q has made u of s
pub record Moved (s u : State) (q : ℕ) : Type 0 where
  pub sealed : u.sealed ≡ s.sealed
  pub other_tables : (t : ℕ) → t ≢ q → table u t ≡ table s t
  pub other_stacks : (t : ℕ) → t ≢ q → stack u t ≡ stack s t
  pub size : length u.bytes ≡ length s.bytes
  pub new : New s q
  -- entries of level 0, and those of other tables, stay
  pub stays : (t i : ℕ) (x : Entry) → entry s t i ≡ Some x → (t ≡ q → level_of x ≡ 0) → entry u t i ≡ Some x
  -- every entry is an old one, unchanged, or the new one
  pub was : (t i : ℕ) (x : Entry) → entry u t i ≡ Some x → (entry s t i ≡ Some x) ⊎ ((t ≡ q) × ((i ≡ fresh s q) × IsEntry s q new x))
  -- every open context of the task is an old one or the new entry
  pub contexts : (c : ℕ) → In c (stack u q) → (In c (stack s q)) ⊎ (c ≡ fresh s q)
  pub bytes : (a : ℕ) → (slice_index u.bytes a ≡ slice_index s.bytes a) ⊎ MayChange s q a
  pub words : (t i : ℕ) (o : Storage) (k : ℕ) → entry u t i ≡ Some (Object o) → k < o.slots → WordOf s u q new t i o k
