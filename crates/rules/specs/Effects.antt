-- What calls do to a store once all their tests have passed.
use Rattle.std.specs.Prelude.{ℕ, ◌+◌, ◌-◌, ◌*◌, true, List, [], ◌∷◌, ◌++◌, length, take, replicate, Ok, Err, Result, slice_set}
use Rattle.bank.specs.Runs.{write_run}
use Rattle.rules.specs.declared.entry.Entry.{Entry}
use Rattle.rules.specs.declared.entry.Entry.TheVariants.{Object}
use Rattle.rules.specs.declared.fault.Fault.{Fault}
use Rattle.rules.specs.declared.shown.Place.{Place}
use Rattle.bank.specs.Words.{word_bytes}
use Rattle.rules.specs.State.{State, Table, table, stack, level, shown, slot_at, block_start, takes, encode}

-- the bytes from an address on replaced
unfoldable pub overwrite : ℕ → List ℕ → State → State
overwrite a bs s =
    record {
      tables = s.tables;
      stacks = s.stacks;
      sealed = s.sealed;
      bytes = write_run s.bytes a bs;
    }

-- a word put into a slot
unfoldable pub put : Place → ℕ → State → State
put l w s = overwrite (slot_at l.by l.at) (word_bytes w) s

-- a table replaced
unfoldable pub with_table : ℕ → Table → State → State
with_table t x s =
    record {
      tables = slice_set s.tables t x;
      stacks = s.stacks;
      sealed = s.sealed;
      bytes = s.bytes;
    }

-- the open contexts of a task replaced
unfoldable pub with_stack : ℕ → List ℕ → State → State
with_stack q cs s =
    record {
      tables = s.tables;
      stacks = slice_set s.stacks q cs;
      sealed = s.sealed;
      bytes = s.bytes;
    }

-- a table with one entry more, and the bytes that it takes
unfoldable pub grown : Table → Entry → Table
grown x e = record { entries = x.entries ++ e ∷ []; claim = x.claim + takes e }

-- an entry added to a table: it takes the next bytes of the block, and all of them become 0
unfoldable pub add : ℕ → Entry → State → State
add t e s =
    with_table t (grown (table s t) e)
    (overwrite (block_start t + (table s t).claim) (replicate (takes e) 0) s)

-- the index that the next entry of a table gets
abbrev pub next_index : State → ℕ → ℕ
next_index s t = length (table s t).entries

-- the storage object that a table makes next
unfoldable pub new_object : State → ℕ → ℕ → ℕ → ℕ → ℕ → Entry
new_object s t n k kind lvl =
    Object (record {
      base = block_start t + (table s t).claim + 4 * k;
      bytes = n;
      slots = k;
      kind = kind;
      level = lvl;
    })

-- a new context becomes the current one of its task
unfoldable pub enter : ℕ → ℕ → State → State
enter q k s =
    with_stack q (next_index s q ∷ stack s q) (add q (new_object s q 0 k 1 (level s q + 1)) s)

-- the open contexts without the current one
abbrev pub popped : List ℕ → List ℕ
popped [] = []
popped (c ∷ cs) = cs

-- what is left of a table whose context c ends: the entries before it, and the claim as it stood
-- before the call
abbrev pub left : ℕ → ℕ → State → Table
left q c s =
    record {
      entries = take c (table s q).entries;
      claim = (shown s q c).base - 4 * (shown s q c).slots - block_start q;
    }

-- the level of a task ends
unfoldable pub leave : ℕ → ℕ → State → State
leave q c s = with_stack q (popped (stack s q)) (with_table q (left q c s) s)

-- loading ends
unfoldable pub sealing : State → State
sealing s = record { tables = s.tables; stacks = s.stacks; sealed = true; bytes = s.bytes }

-- what a call can do to a store
pub data Effect : Type 0 where
  keep : Effect
  put_word : Place → ℕ → Effect
  write_bytes : ℕ → List ℕ → Effect
  add_entry : ℕ → Entry → Effect
  add_named : ℕ → Entry → Place → ℕ → Effect
  start_task : ℕ → ℕ → Effect
  open_context : ℕ → ℕ → ℕ → Effect
  close_context : ℕ → ℕ → Place → ℕ → Effect
  seal : Effect

-- slot 0 of the context that a task opens next
abbrev pub first_slot : State → ℕ → ℕ → ℕ
first_slot s q k = block_start q + (table s q).claim + 4 * k - 4

abbrev pub apply : Effect → State → State
apply keep s = s
apply (put_word l w) s = put l w s
apply (write_bytes a bs) s = overwrite a bs s
apply (add_entry t e) s = add t e s
apply (add_named t e l rights) s =
    put l (encode (record { table = t; index = next_index s t; rights = rights })) (add t e s)
apply (start_task q k) s = enter q k s
apply (open_context q k w) s = overwrite (first_slot s q k) (word_bytes w) (enter q k s)
apply (close_context q c l w) s = leave q c (put l w s)
apply seal s = sealing s

-- what a call that may be made answers and does
pub record Planned (X : Type 0) : Type 0 where
  pub answer : X
  pub effect : Effect

-- a refused call changes nothing
abbrev pub done : {X : Type 0} → State → Result (Planned X) Fault → Result X Fault × State
done s (Ok p) = (Ok p.answer, apply p.effect s)
done s (Err f) = (Err f, s)
