-- A task that is not separate, and that sees a difference.
use Rattle.std.specs.Prelude.{◌≡◌, ℕ, ◌≤◌, List, [], ◌∷◌, length}
use Rattle.rules.specs.declared.call.Call.TheVariants.{Load as load, Operator as operator}
use Rattle.rules.specs.declared.call.Load.{Load}
use Rattle.rules.specs.declared.call.Load.TheVariants.{Place, Task, Grant}
use Rattle.rules.specs.declared.call.Operator.{Operator}
use Rattle.rules.specs.declared.call.Operator.TheVariants.{Read, Write}
use Rattle.rules.specs.State.{State, empty, read as read_right, write as write_right}
use Rattle.runs.specs.Runs.{Request, run, step}
use Rattle.isolation.specs.Share.{Alike, IsSealed, Separate, seal}
use Rattle.isolation.specs.Theorem.{calls_of, seen_by}

-- a load call with no bytes beside it, and an operator of a task
abbrev pub loading : Load → Request
loading c = record { call = load c; bytes = [] }

abbrev pub calling : ℕ → Operator → List ℕ → Request
calling q c bs = record { call = operator q c; bytes = bs }

-- an object of one byte, which task 1 may read and task 2 may write: each has it in slot 0 of its
-- context
abbrev pub sharing : List Request
sharing =
    loading (Task 1 4) ∷ loading (Task 2 4) ∷ loading (Place 0 1 0 0)
    ∷ loading (Grant 1 0 0 0 0 read_right) ∷ loading (Grant 2 0 0 0 0 write_right) ∷ []

-- a store so loaded and sealed, over a bank of these bytes
abbrev pub shared : List ℕ → State
shared l = step seal (run sharing (empty l))

-- task 1 reads the byte; task 2 writes 9 into it
abbrev pub reading : Request
reading = calling 1 (Read 0 0) (0 ∷ [])

abbrev pub writing : Request
writing = calling 2 (Write 0 0) (9 ∷ [])

-- all is as the theorem asks it, but the task is not separate; and it sees a difference
pub record SeesADifference (P : ℕ) (s u : State) (ls rs : List Request) : Type 0 where
  pub sealed : IsSealed s
  pub sealed_too : IsSealed u
  pub alike : Alike P s u
  pub not_separate : Separate P s → ⊥
  pub same_calls : calls_of P ls ≡ calls_of P rs
  pub differs : seen_by P ls s ≡ seen_by P rs u → ⊥

-- over any bank that is large enough, task 1 sees whether task 2 writes before it reads
abbrev pub AnExampleOfADifference : Type 0
AnExampleOfADifference = (l : List ℕ) → 18432 ≤ length l →
    SeesADifference 1 (shared l) (shared l) (reading ∷ []) (writing ∷ reading ∷ [])
