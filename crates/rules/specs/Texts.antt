-- How reasons and faults are printed.
use Rattle.std.specs.Prelude.{ℕ, List, [], ◌∷◌, ◌++◌, codes, decimal}
use Rattle.rules.specs.declared.fault.Fault.{Fault}
use Rattle.rules.specs.declared.fault.Reason.{Reason}
use Rattle.rules.specs.declared.fault.Reason.TheVariants.{SmallBank, WrongPhase, NoTask, NoLevel, NullEnvironment, EnvironmentRight, NoSlot, NullSource, MissingRight, WrongType, NotDeletable, OutOfRange, StoringRule, NoRoom}
use Rattle.rules.specs.Faults.{layer_of, letter_of, number_of}

-- a reason
abbrev pub reason_text : Reason → List ℕ
reason_text SmallBank = codes "the bank is too small"
reason_text WrongPhase = codes "the store is not sealed, or sealed already"
reason_text NoTask = codes "the task is not loaded"
reason_text NoLevel = codes "there is no such level"
reason_text NullEnvironment = codes "the environment is null"
reason_text EnvironmentRight = codes "the environment lacks a right"
reason_text NoSlot = codes "there is no such slot"
reason_text NullSource = codes "the slot is null"
reason_text MissingRight = codes "a right is missing"
reason_text WrongType = codes "the type is another one"
reason_text NotDeletable = codes "what the slot holds may not be deleted"
reason_text OutOfRange = codes "a number or a run is out of range"
reason_text StoringRule = codes "the slot would outlive the entry it is to name"
reason_text NoRoom = codes "the table or its block is full"

-- a fault in all its parts
abbrev pub fault_text : Fault → List ℕ
fault_text f =
    codes "fault " ++ (decimal (number_of f.reason)
    ++ (codes " layer " ++ (letter_of (layer_of f.reason) ∷ []
    ++ (codes " task " ++ (decimal f.task
    ++ (codes " place " ++ (decimal f.place
    ++ (codes " selector " ++ decimal f.selector))))))))
