-- Whether a task is separate, as a question that can be answered.
use Rattle.std.specs.Prelude.{◌≡◌, ◌↔◌, ℕ, Bool, true, List, Ok, Err, Result}
use Rattle.rules.specs.declared.fault.Fault.{Fault}
use Rattle.rules.specs.State.{State}
use Rattle.rules.specs.Tests.{operator}
use Rattle.runs.specs.Runs.{Request, run}
use Rattle.soundness.specs.Sound.{Sound}
use Rattle.isolation.specs.Share.{Alike, IsSealed, Separate}
use Rattle.isolation.specs.Theorem.{SeesNoDifference, calls_of}

-- the answer to the question whether task P is separate: the fault with which an operator of the
-- task is refused before its operands are looked at; else yes, which is true, or no, and it is yes
-- exactly if the task is separate
pub data IsAnswer (P : ℕ) (s : State) : Result Bool Fault → Type 0 where
  refused : (f : Fault) → operator s P ≡ Err f → IsAnswer P s (Err f)
  told : (b : Bool) (c : ℕ) → operator s P ≡ Ok c → ((b ≡ true) ↔ Separate P s) →
      IsAnswer P s (Ok b)

-- the answer is yes
abbrev pub SaysYes : ℕ → State → Type 0
SaysYes P s = IsAnswer P s (Ok true)

-- it is yes after any calls, refused ones among them
abbrev pub StaysYes : ℕ → State → Type 0
StaysYes P s = (rs : List Request) → SaysYes P (run rs s)

-- a yes lasts
abbrev pub YesLasts : Type 0
YesLasts = (P : ℕ) (s : State) → Sound s → SaysYes P s → StaysYes P s

-- what the integrator has to know of two stores and of a list of calls for each
pub record AreKnown (P : ℕ) (s u : State) (ls rs : List Request) : Type 0 where
  -- the stores are freshly sealed, and alike in the task's share
  pub sealed : IsSealed s
  pub sealed_too : IsSealed u
  pub alike : Alike P s u
  -- each answers yes
  pub yes : SaysYes P s
  pub yes_too : SaysYes P u
  -- the lists hold the same calls of the task in the same order
  pub same_calls : calls_of P ls ≡ calls_of P rs

-- then the task sees no difference
abbrev pub IsolationByAnswers : Type 0
IsolationByAnswers = (P : ℕ) (s u : State) (ls rs : List Request) → AreKnown P s u ls rs →
    SeesNoDifference P s u ls rs
