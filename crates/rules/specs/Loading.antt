-- The six load calls.
use Rattle.std.specs.Prelude.{ℕ, ◌*◌, Bool, true, false, not, ◌&&◌, ◌||◌, List, length, Some, None, Ok, Option, Result, ◌==◌, nat_le, nat_lt}
use Rattle.std.specs.Option.{is_some}
use Rattle.rules.specs.declared.entry.Entry.{Entry}
use Rattle.rules.specs.declared.entry.Entry.TheVariants.{Object, Control, Refined}
use Rattle.rules.specs.declared.fault.Fault.{Fault}
use Rattle.rules.specs.declared.fault.Reason.TheVariants.{NoTask, WrongType}
use Rattle.rules.specs.State.{State, level, entry, shown, byte_at, kind_of, encode, takes}
use Rattle.rules.specs.Tests.{◌≫=◌, check, refusal, loading, in_range, fits, room}
use Rattle.rules.specs.Effects.{Planned, put_word, write_bytes, add_entry, start_task, seal, new_object, next_index}

-- types that users give
abbrev pub user_kind : ℕ → Bool
user_kind k = nat_le 16 k && nat_le k 255

-- the adding of an entry to a table; the answer is its index
unfoldable pub adding : State → ℕ → Entry → ℕ → Result (Planned ℕ) Fault
adding s t e q =
    room s t (takes e) q ≫= λ _.
    Ok (record { answer = next_index s t; effect = add_entry t e })

-- the making of a storage object
unfoldable pub making : State → ℕ → ℕ → ℕ → ℕ → ℕ → ℕ → Result (Planned ℕ) Fault
making s t n k kind lvl q = adding s t (new_object s t n k kind lvl) q

-- place: a storage object of level 0
unfoldable pub place_plan : ℕ → ℕ → ℕ → ℕ → State → Result (Planned ℕ) Fault
place_plan t n k kind s =
    loading s 0 ≫= λ _.
    in_range (nat_lt t 9 && nat_le n 2048 && nat_le k 512 && (kind == 0 || user_kind kind)) 0
    ≫= λ _.
    making s t n k kind 0 0

-- control: a type control; the answer is its index
unfoldable pub control_plan : ℕ → ℕ → ℕ → State → Result (Planned ℕ) Fault
control_plan t kind rights s =
    loading s 0 ≫= λ _.
    in_range (nat_lt t 9 && user_kind kind && nat_le rights 63) 0 ≫= λ _.
    adding s t (Control (record { kind = kind; rights = rights })) 0

-- the making of the first context of a task; the answer is its index
unfoldable pub starting : State → ℕ → ℕ → Result (Planned ℕ) Fault
starting s q k =
    room s q (4 * k) q ≫= λ _.
    Ok (record { answer = next_index s q; effect = start_task q k })

-- task: a task is loaded
unfoldable pub task_plan : ℕ → ℕ → State → Result (Planned ℕ) Fault
task_plan q k s =
    loading s q ≫= λ _.
    check (nat_le 1 q && nat_le q 8 && level s q == 0) (refusal NoTask q) ≫= λ _.
    in_range (nat_le 4 k && nat_le k 64) q ≫= λ _.
    starting s q k

-- a context may not be named; whether it is there is another test
abbrev pub nameable : Option Entry → Bool
nameable (Some e) = not (kind_of e == 1)
nameable None = true

-- only a storage object has slots to grant into and bytes to fill; whether it is there is another
-- test
abbrev pub holds : Option Entry → Bool
holds (Some (Object o)) = true
holds (Some (Control c)) = false
holds (Some (Refined r)) = false
holds None = true

-- grant: a descriptor written over any slot of a storage object
unfoldable pub grant_plan : ℕ → ℕ → ℕ → ℕ → ℕ → ℕ → State → Result (Planned (Unit {0})) Fault
grant_plan t i slot nt ni rights s =
    loading s 0 ≫= λ _.
    check (holds (entry s t i) && nameable (entry s nt ni)) (refusal WrongType 0) ≫= λ _.
    in_range
    (is_some (entry s nt ni)
    && (is_some (entry s t i) && nat_lt slot (shown s t i).slots && nat_le rights 63))
    0 ≫= λ _.
    Ok (record {
      answer = tt;
      effect =
          put_word (record { by = shown s t i; at = slot })
          (encode (record { table = nt; index = ni; rights = rights }));
    })

-- fill: data bytes of a storage object written
unfoldable pub fill_plan : ℕ → ℕ → ℕ → List ℕ → State → Result (Planned (Unit {0})) Fault
fill_plan t i offset bs s =
    loading s 0 ≫= λ _.
    check (holds (entry s t i)) (refusal WrongType 0) ≫= λ _.
    in_range (is_some (entry s t i) && fits offset (length bs) (shown s t i).bytes) 0 ≫= λ _.
    Ok (record { answer = tt; effect = write_bytes (byte_at (shown s t i) offset) bs })

-- seal: loading ends
unfoldable pub seal_plan : State → Result (Planned (Unit {0})) Fault
seal_plan s =
    loading s 0 ≫= λ _.
    Ok (record { answer = tt; effect = seal })
