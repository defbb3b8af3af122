-- What comes of room in a table, and of the last tests of a refinement.
use Rattle.std.specs.Prelude.{ℕ, cond, ◌&&◌, Ok, Result}
use Rattle.rules.specs.declared.fault.Fault.{Fault}
use Rattle.rules.specs.declared.descriptor.Descriptor.{Descriptor}
use Rattle.rules.specs.declared.shown.Place.{Place}
use Rattle.rules.specs.State.{State, level, shown, table}
use Rattle.rules.specs.Tests.{◌≫=◌, fits, has_room, in_range, room, storable}
use Rattle.rules.specs.Effects.{Planned, add_named}
use Rattle.rules.specs.Operators.{refined}
use Rattle.store.specs.declared.extent.Runs.{Runs}

-- the first if a table has room for n bytes and one entry more, else the second
abbrev pub if_room : {X : Type 0} → State → ℕ → ℕ → X → X → X
if_room s t n x y = cond (has_room (table s t) n) x y

-- the naming of runs of what a descriptor shows, once its slot and the destination have been found
unfoldable pub refining : State → ℕ → Descriptor → Place → Runs → Result (Planned (Unit {0})) Fault
refining s q d l r =
    in_range (fits r.byte r.bytes (shown s d.table d.index).bytes && fits r.slot r.slots (shown s d.table d.index).slots) q ≫= λ _.
    storable (level s q) l q ≫= λ _.
    room s q 0 q ≫= λ _.
    Ok (record { answer = tt; effect = add_named q (refined (shown s d.table d.index) r.byte r.bytes r.slot r.slots (level s q)) l d.rights })
