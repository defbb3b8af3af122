-- What a call answers, what it leaves in the buffer beside it, and the state after it.
use Rattle.std.specs.Prelude.{ℕ, List, length, Some, None, Ok, Err, Option, Result}
use Rattle.rules.specs.declared.call.Answer.{Answer}
use Rattle.rules.specs.declared.call.Answer.TheVariants.{Done, Index, Filled, Absent, Seen, Looked as Shows}
use Rattle.rules.specs.declared.call.Call.{Call}
use Rattle.rules.specs.declared.call.Call.TheVariants.{Load as load, Operator as operator}
use Rattle.rules.specs.declared.call.Load.{Load}
use Rattle.rules.specs.declared.call.Load.TheVariants.{Place, Control, Task, Grant, Fill, Seal}
use Rattle.rules.specs.declared.call.Operator.{Operator}
use Rattle.rules.specs.declared.call.Operator.TheVariants.{Copy, Null, Restrict, Amplify, Create, Typed, Refine, Read, Write, See, Look, Call as Calls, Return}
use Rattle.rules.specs.declared.descriptor.Descriptor.{Descriptor}
use Rattle.rules.specs.declared.fault.Fault.{Fault}
use Rattle.rules.specs.State.{State}
use Rattle.rules.specs.Effects.{done}
use Rattle.rules.specs.Loading.{place_plan, control_plan, task_plan, grant_plan, fill_plan, seal_plan}
use Rattle.rules.specs.Operators.{Looked, copy_plan, null_plan, restrict_plan, amplify_plan, create_plan, typed_plan, refine_plan, read_plan, write_plan, see_plan, look_plan, call_plan, return_plan}

-- the outcome of a call: its answer or its fault, and the buffer as it is left
pub record Outcome : Type 0 where
  pub answer : Result Answer Fault
  pub buffer : List ℕ

-- what see answers, and look
abbrev pub seen : Option Descriptor → Answer
seen (Some d) = Seen d.table d.index d.rights
seen None = Absent

abbrev pub looked : Looked → Answer
looked v = Shows v.kind v.bytes v.slots v.level

-- the answer to what was found, or the fault
abbrev pub answer_of : {X : Type 0} → (X → Answer) → Result X Fault → Result Answer Fault
answer_of f (Ok x) = Ok (f x)
answer_of f (Err e) = Err e

-- a call that leaves the buffer as it is
abbrev pub answering :
    {X : Type 0} → (X → Answer) → List ℕ → Result X Fault × State → Outcome × State
answering f buffer x = (record { answer = answer_of f x.0; buffer = buffer }, x.1)

-- a call that has nothing to answer
abbrev pub doing : List ℕ → Result (Unit {0}) Fault × State → Outcome × State
doing = answering (λ _. Done)

-- a read fills the whole buffer; a fault leaves it as it was
abbrev pub filled : List ℕ → Result (List ℕ) Fault → Outcome
filled before (Ok bytes) = record { answer = Ok Filled; buffer = bytes }
filled before (Err f) = record { answer = Err f; buffer = before }

abbrev pub filling : List ℕ → Result (List ℕ) Fault × State → Outcome × State
filling before x = (filled before x.0, x.1)

-- the six load calls; bs is what fill writes
abbrev pub load_outcome : Load → List ℕ → State → Outcome × State
load_outcome (Place t n k kind) bs s = answering Index bs (done s (place_plan t n k kind s))
load_outcome (Control t kind rights) bs s =
    answering Index bs (done s (control_plan t kind rights s))
load_outcome (Task q k) bs s = answering Index bs (done s (task_plan q k s))
load_outcome (Grant t i slot nt ni rights) bs s =
    doing bs (done s (grant_plan t i slot nt ni rights s))
load_outcome (Fill t i offset) bs s = doing bs (done s (fill_plan t i offset bs s))
load_outcome Seal bs s = doing bs (done s (seal_plan s))

-- the thirteen operators of task q; bs is what write writes, and the buffer that read fills
abbrev pub operator_outcome : ℕ → Operator → List ℕ → State → Outcome × State
operator_outcome q (Copy src dst) bs s = doing bs (done s (copy_plan q src dst s))
operator_outcome q (Null dst) bs s = doing bs (done s (null_plan q dst s))
operator_outcome q (Restrict src dst mask) bs s = doing bs (done s (restrict_plan q src dst mask s))
operator_outcome q (Amplify ctl src dst) bs s = doing bs (done s (amplify_plan q ctl src dst s))
operator_outcome q (Create dst n k) bs s = doing bs (done s (create_plan q dst n k s))
operator_outcome q (Typed ctl dst n k) bs s = doing bs (done s (typed_plan q ctl dst n k s))
operator_outcome q (Refine src dst byte bytes slot slots) bs s =
    doing bs (done s (refine_plan q src dst byte bytes slot slots s))
operator_outcome q (Read src offset) bs s =
    filling bs (done s (read_plan q src offset (length bs) s))
operator_outcome q (Write src offset) bs s = doing bs (done s (write_plan q src offset bs s))
operator_outcome q (See src) bs s = answering seen bs (done s (see_plan q src s))
operator_outcome q (Look src) bs s = answering looked bs (done s (look_plan q src s))
operator_outcome q (Calls arg k) bs s = doing bs (done s (call_plan q arg k s))
operator_outcome q (Return res) bs s = doing bs (done s (return_plan q res s))

-- a call with the bytes beside it
unfoldable pub outcome : Call → List ℕ → State → Outcome × State
outcome (load c) bs s = load_outcome c bs s
outcome (operator q c) bs s = operator_outcome q c bs s
