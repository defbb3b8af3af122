-- The numbers, layers and letters of faults.
use Rattle.std.specs.Prelude.{ℕ}
use Rattle.rules.specs.declared.fault.Layer.{Layer}
use Rattle.rules.specs.declared.fault.Layer.TheVariants.{Call, Selector, Descriptor, Object}
use Rattle.rules.specs.declared.fault.Reason.{Reason}
use Rattle.rules.specs.declared.fault.Reason.TheVariants.{SmallBank, WrongPhase, NoTask, NoLevel, NullEnvironment, EnvironmentRight, NoSlot, NullSource, MissingRight, WrongType, NotDeletable, OutOfRange, StoringRule, NoRoom}

abbrev pub number_of : Reason → ℕ
number_of SmallBank = 1
number_of WrongPhase = 2
number_of NoTask = 3
number_of NoLevel = 4
number_of NullEnvironment = 5
number_of EnvironmentRight = 6
number_of NoSlot = 7
number_of NullSource = 8
number_of MissingRight = 9
number_of WrongType = 10
number_of NotDeletable = 11
number_of OutOfRange = 12
number_of StoringRule = 13
number_of NoRoom = 14

abbrev pub layer_of : Reason → Layer
layer_of SmallBank = Call
layer_of WrongPhase = Call
layer_of NoTask = Call
layer_of NoLevel = Call
layer_of NullEnvironment = Selector
layer_of EnvironmentRight = Selector
layer_of NoSlot = Selector
layer_of NullSource = Descriptor
layer_of MissingRight = Descriptor
layer_of WrongType = Descriptor
layer_of NotDeletable = Descriptor
layer_of OutOfRange = Object
layer_of StoringRule = Object
layer_of NoRoom = Object

-- A, B, C and D
abbrev pub letter_of : Layer → ℕ
letter_of Call = 65
letter_of Selector = 66
letter_of Descriptor = 67
letter_of Object = 68
