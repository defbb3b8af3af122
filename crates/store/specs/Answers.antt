-- What the operators that read hand to their caller.
use Rattle.std.specs.Prelude.{ℕ, List, Some, None, Ok, Err, Option, Result}
use Rattle.rules.specs.declared.call.Answer.{Answer}
use Rattle.rules.specs.declared.call.Answer.TheVariants.{Absent, Seen, Looked as Shows}
use Rattle.rules.specs.declared.fault.Fault.{Fault}
use Rattle.rules.specs.declared.descriptor.Descriptor.{Descriptor}
use Rattle.rules.specs.State.{State}
use Rattle.rules.specs.Operators.{Looked}

-- read: the whole buffer is filled; after a fault it is as it was
abbrev pub delivered : List ℕ → Result (List ℕ) Fault → Result (Unit {0}) Fault × List ℕ
delivered before (Ok bytes) = (Ok tt, bytes)
delivered before (Err f) = (Err f, before)

abbrev pub received : List ℕ → Result (List ℕ) Fault × State → (Result (Unit {0}) Fault × List ℕ) × State
received before x = (delivered before x.0, x.1)

-- see: table, index and rights, or absent
abbrev pub told : Option Descriptor → Option (ℕ × ℕ × ℕ)
told (Some d) = Some (d.table, d.index, d.rights)
told None = None

abbrev pub told_by : Result (Option Descriptor) Fault → Result (Option (ℕ × ℕ × ℕ)) Fault
told_by (Ok o) = Ok (told o)
told_by (Err f) = Err f

abbrev pub seen : Result (Option Descriptor) Fault × State → Result (Option (ℕ × ℕ × ℕ)) Fault × State
seen x = (told_by x.0, x.1)

-- look: type, data length, slot count and level
abbrev pub listed_by : Result Looked Fault → Result (ℕ × ℕ × ℕ × ℕ) Fault
listed_by (Ok v) = Ok (v.kind, v.bytes, v.slots, v.level)
listed_by (Err f) = Err f

abbrev pub listed : Result Looked Fault × State → Result (ℕ × ℕ × ℕ × ℕ) Fault × State
listed x = (listed_by x.0, x.1)

-- what see and look tell, as the answer of a call
abbrev pub seen_answer : Option (ℕ × ℕ × ℕ) → Answer
seen_answer (Some (t, i, r)) = Seen t i r
seen_answer None = Absent

abbrev pub looked_answer : ℕ × ℕ × ℕ × ℕ → Answer
looked_answer (t, n, k, v) = Shows t n k v
