-- The thirteen operators. Each names its task first; operands are selectors.
use Rattle.std.specs.Prelude.{ℕ, ◌+◌, ◌*◌, Bool, true, false, ◌&&◌, List, [], ◌∷◌, length, Some, None, Ok, Option, Result, ◌==◌, bit_and, bit_or, nat_le, nat_lt}
use Rattle.bank.specs.Runs.{read_run}
use Rattle.rules.specs.declared.entry.Entry.{Entry}
use Rattle.rules.specs.declared.entry.Entry.TheVariants.{Object, Control, Refined}
use Rattle.rules.specs.declared.fault.Fault.{Fault}
use Rattle.rules.specs.declared.fault.Reason.TheVariants.{NoLevel, WrongType, NotDeletable, StoringRule}
use Rattle.rules.specs.declared.descriptor.Descriptor.{Descriptor}
use Rattle.rules.specs.declared.shown.Shown.{Shown}
use Rattle.rules.specs.declared.shown.Place.{Place}
use Rattle.rules.specs.State.{State, stack, level, entry, named, shown, byte_at, held, encode, read, write, type1, type2}
use Rattle.rules.specs.Tests.{◌≫=◌, check, some, refusal, refusal_at, operator, source_or_null, source, source_with, control, destination, overwritable, in_range, fits, storable, room, level_by, kind_by}
use Rattle.rules.specs.Effects.{Planned, keep, put_word, write_bytes, add_named, open_context, close_context, new_object}

-- a descriptor of the same entry with other rights
abbrev pub with_rights : ℕ → Descriptor → Descriptor
with_rights r d = record { table = d.table; index = d.index; rights = r }

-- the storing of a descriptor in a slot
unfoldable pub stores : State → ℕ → Descriptor → Place → Result (Planned (Unit {0})) Fault
stores s q d l =
    storable (level_by (entry s d.table d.index)) l q ≫= λ _.
    Ok (record { answer = tt; effect = put_word l (encode d) })

-- copy: the descriptor of one slot also in another
unfoldable pub copy_plan : ℕ → ℕ → ℕ → State → Result (Planned (Unit {0})) Fault
copy_plan q src dst s =
    operator s q ≫= λ c.
    source s q c 1 src ≫= λ d.
    destination s q c 2 dst ≫= λ l.
    stores s q d l

-- null: a slot becomes null
unfoldable pub null_plan : ℕ → ℕ → State → Result (Planned (Unit {0})) Fault
null_plan q dst s =
    operator s q ≫= λ c.
    destination s q c 1 dst ≫= λ l.
    Ok (record { answer = tt; effect = put_word l 0 })

-- restrict: the rights in both numbers
unfoldable pub restrict_plan : ℕ → ℕ → ℕ → ℕ → State → Result (Planned (Unit {0})) Fault
restrict_plan q src dst mask s =
    operator s q ≫= λ c.
    source s q c 1 src ≫= λ d.
    destination s q c 2 dst ≫= λ l.
    in_range (nat_le mask 63) q ≫= λ _.
    stores s q (with_rights (bit_and d.rights mask) d) l

-- amplify: the rights of the source and those that the type control adds
unfoldable pub amplify_plan : ℕ → ℕ → ℕ → ℕ → State → Result (Planned (Unit {0})) Fault
amplify_plan q ctl src dst s =
    operator s q ≫= λ c.
    control type2 s q c 1 ctl ≫= λ k.
    source s q c 2 src ≫= λ d.
    check (kind_by (entry s d.table d.index) == k.kind) (refusal_at WrongType q 2 src) ≫= λ _.
    destination s q c 3 dst ≫= λ l.
    stores s q (with_rights (bit_or d.rights k.rights) d) l

-- the making of a storage object in the task's own table at its level, named with all rights in a
-- slot
unfoldable pub makes : State → ℕ → Place → ℕ → ℕ → ℕ → Result (Planned (Unit {0})) Fault
makes s q l n k kind =
    in_range (nat_le n 2048 && nat_le k 512) q ≫= λ _.
    storable (level s q) l q ≫= λ _.
    room s q (4 * k + n) q ≫= λ _.
    Ok (record { answer = tt; effect = add_named q (new_object s q n k kind (level s q)) l 63 })

-- create: a storage object that is generic
unfoldable pub create_plan : ℕ → ℕ → ℕ → ℕ → State → Result (Planned (Unit {0})) Fault
create_plan q dst n k s =
    operator s q ≫= λ c.
    destination s q c 1 dst ≫= λ l.
    makes s q l n k 0

-- typed: a storage object of the type of a type control
unfoldable pub typed_plan : ℕ → ℕ → ℕ → ℕ → ℕ → State → Result (Planned (Unit {0})) Fault
typed_plan q ctl dst n k s =
    operator s q ≫= λ c.
    control type1 s q c 1 ctl ≫= λ t.
    destination s q c 2 dst ≫= λ l.
    makes s q l n k t.kind

-- a type control has no parts
abbrev pub has_parts : Option Entry → Bool
has_parts (Some (Control k)) = false
has_parts (Some (Object o)) = true
has_parts (Some (Refined r)) = true
has_parts None = true

-- the refinement that shows runs of what is shown
abbrev pub refined : Shown → ℕ → ℕ → ℕ → ℕ → ℕ → Entry
refined v byte bytes slot slots lvl =
    Refined (record {
      table = v.owner;
      index = v.object;
      byte = v.byte + byte;
      bytes = bytes;
      slot = v.slot + slot;
      slots = slots;
      level = lvl;
    })

-- refine: the runs count from what the source shows; the rights are the source's
unfoldable pub refine_plan : ℕ → ℕ → ℕ → ℕ → ℕ → ℕ → ℕ → State → Result (Planned (Unit {0})) Fault
refine_plan q src dst byte bytes slot slots s =
    operator s q ≫= λ c.
    source s q c 1 src ≫= λ d.
    check (has_parts (entry s d.table d.index)) (refusal_at WrongType q 1 src) ≫= λ _.
    destination s q c 2 dst ≫= λ l.
    in_range
    (fits byte bytes (shown s d.table d.index).bytes
    && fits slot slots (shown s d.table d.index).slots)
    q ≫= λ _.
    storable (level s q) l q ≫= λ _.
    room s q 0 q ≫= λ _.
    Ok (record {
      answer = tt;
      effect =
          add_named q (refined (shown s d.table d.index) byte bytes slot slots (level s q)) l
          d.rights;
    })

-- read: the answer is what the buffer of n bytes holds afterwards
unfoldable pub read_plan : ℕ → ℕ → ℕ → ℕ → State → Result (Planned (List ℕ)) Fault
read_plan q src offset n s =
    operator s q ≫= λ c.
    source_with read s q c 1 src ≫= λ d.
    in_range (fits offset n (shown s d.table d.index).bytes) q ≫= λ _.
    Ok (record {
      answer = read_run s.bytes (byte_at (shown s d.table d.index) offset) n;
      effect = keep;
    })

-- write: data bytes from an offset on replaced
unfoldable pub write_plan : ℕ → ℕ → ℕ → List ℕ → State → Result (Planned (Unit {0})) Fault
write_plan q src offset bs s =
    operator s q ≫= λ c.
    source_with write s q c 1 src ≫= λ d.
    in_range (fits offset (length bs) (shown s d.table d.index).bytes) q ≫= λ _.
    Ok (record { answer = tt; effect = write_bytes (byte_at (shown s d.table d.index) offset) bs })

-- see: the answer is the descriptor, or that there is none
unfoldable pub see_plan : ℕ → ℕ → State → Result (Planned (Option Descriptor)) Fault
see_plan q src s =
    operator s q ≫= λ c.
    source_or_null s q c 1 src ≫= λ o.
    Ok (record { answer = o; effect = keep })

-- what look tells of an entry
pub record Looked : Type 0 where
  pub kind : ℕ
  pub bytes : ℕ
  pub slots : ℕ
  pub level : ℕ

-- look: the answer is of the entry that the source names
unfoldable pub look_plan : ℕ → ℕ → State → Result (Planned Looked) Fault
look_plan q src s =
    operator s q ≫= λ c.
    source s q c 1 src ≫= λ d.
    Ok (record {
      answer = record {
        kind = kind_by (entry s d.table d.index);
        bytes = (shown s d.table d.index).bytes;
        slots = (shown s d.table d.index).slots;
        level = level_by (entry s d.table d.index);
      };
      effect = keep;
    })

-- the word of a descriptor that may be null
abbrev pub word_of : Option Descriptor → ℕ
word_of (Some d) = encode d
word_of None = 0

-- the level of the entry that it names, 0 of none
abbrev pub level_named : State → Option Descriptor → ℕ
level_named s (Some d) = level_by (entry s d.table d.index)
level_named s None = 0

-- call: a context at the next level, with the argument in its slot 0
unfoldable pub call_plan : ℕ → ℕ → ℕ → State → Result (Planned (Unit {0})) Fault
call_plan q arg k s =
    operator s q ≫= λ c.
    check (nat_lt (level s q) 8) (refusal NoLevel q) ≫= λ _.
    source_or_null s q c 1 arg ≫= λ o.
    in_range (nat_le 4 k && nat_le k 64) q ≫= λ _.
    check (nat_le (level_named s o) (level s q + 1)) (refusal StoringRule q) ≫= λ _.
    room s q (4 * k) q ≫= λ _.
    Ok (record { answer = tt; effect = open_context q k (word_of o) })

-- the context that the current one was called from
abbrev pub calling : List ℕ → Option ℕ
calling [] = None
calling (c ∷ []) = None
calling (c ∷ (b ∷ cs)) = Some b

-- slot 0 of what is shown
abbrev pub first_of : Shown → Place
first_of v = record { by = v; at = 0 }

-- return: the result into slot 0 of the calling context, and the level ends
unfoldable pub return_plan : ℕ → ℕ → State → Result (Planned (Unit {0})) Fault
return_plan q res s =
    operator s q ≫= λ c.
    some (calling (stack s q)) (refusal NoLevel q) ≫= λ b.
    source_or_null s q c 1 res ≫= λ o.
    check (overwritable (named s (held s (first_of (shown s q b))))) (refusal_at NotDeletable q 2 0)
    ≫= λ _.
    storable (level_named s o) (first_of (shown s q b)) q ≫= λ _.
    Ok (record { answer = tt; effect = close_context q c (first_of (shown s q b)) (word_of o) })
