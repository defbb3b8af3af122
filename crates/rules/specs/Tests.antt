-- The tests that calls are made of. Each gives what it finds or its fault, whose number stands
-- beside it.
use Rattle.std.specs.Prelude.{ℕ, ◌+◌, ◌/◌, ◌%◌, Bool, true, false, if◌then◌else◌, not, ◌&&◌, List, [], ◌∷◌, length, Some, None, Ok, Err, Option, Result, ◌==◌, nat_le, nat_lt}
use Rattle.rules.specs.declared.entry.Entry.{Entry}
use Rattle.rules.specs.declared.entry.Entry.TheVariants.{Object, Control, Refined}
use Rattle.rules.specs.declared.entry.TypeControl.{TypeControl}
use Rattle.rules.specs.declared.fault.Fault.{Fault}
use Rattle.rules.specs.declared.fault.Reason.{Reason}
use Rattle.rules.specs.declared.fault.Reason.TheVariants.{SmallBank, WrongPhase, NoTask, NullEnvironment, EnvironmentRight, NoSlot, NullSource, MissingRight, WrongType, NotDeletable, OutOfRange, StoringRule, NoRoom}
use Rattle.rules.specs.declared.descriptor.Descriptor.{Descriptor}
use Rattle.rules.specs.declared.shown.Shown.{Shown}
use Rattle.rules.specs.declared.shown.Place.{Place}
use Rattle.bank.specs.Words.{word_at}
use Rattle.rules.specs.State.{State, Table, table, stack, entry, named, shown, slot_at, held, has, kind_of, level_of, read, write, delete}

infixr 20 ◌≫=◌
-- one test after the other: the first that fails gives the fault
abbrev pub ◌≫=◌ : {X Y : Type 0} → Result X Fault → (X → Result Y Fault) → Result Y Fault
Ok x ≫= f = f x
Err e ≫= f = Err e

-- a condition must hold, and something must be there
abbrev pub check : Bool → Fault → Result (Unit {0}) Fault
check true f = Ok tt
check false f = Err f

abbrev pub some : {X : Type 0} → Option X → Fault → Result X Fault
some (Some x) f = Ok x
some None f = Err f

-- a fault of no operand, and one of an operand
abbrev pub refusal : Reason → ℕ → Fault
refusal r q = record { reason = r; task = q; place = 0; selector = 0 }

abbrev pub refusal_at : Reason → ℕ → ℕ → ℕ → Fault
refusal_at r q p sel = record { reason = r; task = q; place = p; selector = sel }

-- 1: a store over a bank of fewer than 18,432 bytes refuses all calls; 2: a load call comes before
-- sealing, an operator after it
unfoldable pub loading : State → ℕ → Result (Unit {0}) Fault
loading s q =
    check (nat_le 18432 (length s.bytes)) (refusal SmallBank q) ≫= λ _.
    check (not s.sealed) (refusal WrongPhase q)

-- the current one of a task's open contexts
abbrev pub current : List ℕ → Option ℕ
current [] = None
current (c ∷ cs) = Some c

-- 3: the task is loaded; what is found is its current context
unfoldable pub operator : State → ℕ → Result ℕ Fault
operator s q =
    check (nat_le 18432 (length s.bytes)) (refusal SmallBank q) ≫= λ _.
    check s.sealed (refusal WrongPhase q) ≫= λ _.
    some (current (stack s q)) (refusal NoTask q)

-- 5, 6: what the environment of a selector shows, given its current context c and the right that is
-- needed there
unfoldable pub environment : ℕ → State → ℕ → ℕ → ℕ → ℕ → Result Shown Fault
environment right s q c p sel =
    if sel % 4 == 0
    then Ok (shown s q c)
    else
    (some (named s (word_at s.bytes (slot_at (shown s q c) (sel % 4))))
    (refusal_at NullEnvironment q p sel) ≫= λ d.
    check (has right d.rights) (refusal_at EnvironmentRight q p sel) ≫= λ _.
    Ok (shown s d.table d.index))

-- 7: the slot that a selector names
unfoldable pub resolve : ℕ → State → ℕ → ℕ → ℕ → ℕ → Result Place Fault
resolve right s q c p sel =
    environment right s q c p sel ≫= λ v.
    check (nat_lt (sel / 4) v.slots) (refusal_at NoSlot q p sel) ≫= λ _.
    Ok (record { by = v; at = sel / 4 })

-- a source that may be null
unfoldable pub source_or_null : State → ℕ → ℕ → ℕ → ℕ → Result (Option Descriptor) Fault
source_or_null s q c p sel =
    resolve read s q c p sel ≫= λ l.
    Ok (named s (held s l))

-- 8: a source that may not
unfoldable pub source : State → ℕ → ℕ → ℕ → ℕ → Result Descriptor Fault
source s q c p sel =
    source_or_null s q c p sel ≫= λ o.
    some o (refusal_at NullSource q p sel)

-- 9: a source whose descriptor has a right
unfoldable pub source_with : ℕ → State → ℕ → ℕ → ℕ → ℕ → Result Descriptor Fault
source_with right s q c p sel =
    source s q c p sel ≫= λ d.
    check (has right d.rights) (refusal_at MissingRight q p sel) ≫= λ _.
    Ok d

-- the type control that an entry is
abbrev pub control_by : Option Entry → Option TypeControl
control_by (Some (Control k)) = Some k
control_by (Some (Object o)) = None
control_by (Some (Refined r)) = None
control_by None = None

-- 10: a source that names a type control and has a right
unfoldable pub control : ℕ → State → ℕ → ℕ → ℕ → ℕ → Result TypeControl Fault
control right s q c p sel =
    source_with right s q c p sel ≫= λ d.
    some (control_by (entry s d.table d.index)) (refusal_at WrongType q p sel)

-- 11: a slot may be overwritten if it is null or its descriptor has the delete right
abbrev pub overwritable : Option Descriptor → Bool
overwritable (Some d) = has delete d.rights
overwritable None = true

unfoldable pub destination : State → ℕ → ℕ → ℕ → ℕ → Result Place Fault
destination s q c p sel =
    resolve write s q c p sel ≫= λ l.
    check (overwritable (named s (held s l))) (refusal_at NotDeletable q p sel) ≫= λ _.
    Ok l

-- 12: the numbers are in their ranges, and the runs inside what is there
abbrev pub in_range : Bool → ℕ → Result (Unit {0}) Fault
in_range b q = check b (refusal OutOfRange q)

-- a run of n from first on lies within what is there
abbrev pub fits : ℕ → ℕ → ℕ → Bool
fits first n there = nat_le (first + n) there

-- 13: a descriptor may be stored only in an object whose level is at least that of the entry named
abbrev pub storable : ℕ → Place → ℕ → Result (Unit {0}) Fault
storable entry_level l q = check (nat_le entry_level l.by.level) (refusal StoringRule q)

-- the level and the type of what is named
abbrev pub level_by : Option Entry → ℕ
level_by (Some e) = level_of e
level_by None = 0

abbrev pub kind_by : Option Entry → ℕ
kind_by (Some e) = kind_of e
kind_by None = 0

-- 14: the table has fewer than 64 entries, and its block the bytes
unfoldable pub has_room : Table → ℕ → Bool
has_room x n = nat_lt (length x.entries) 64 && nat_le (x.claim + n) 2048

abbrev pub room : State → ℕ → ℕ → ℕ → Result (Unit {0}) Fault
room s t n q = check (has_room (table s t) n) (refusal NoRoom q)
