-- A separate task cannot tell two stores apart.
use Rattle.std.specs.Prelude.{◌≡◌, ℕ, ◌≤◌, Bool, true, false, List, [], ◌∷◌, map, filter, zip, ◌==◌}
use Rattle.rules.specs.declared.call.Call.{Call}
use Rattle.rules.specs.declared.call.Call.TheVariants.{Load as load, Operator as operator}
use Rattle.rules.specs.State.{State}
use Rattle.rules.specs.Calls.{Outcome}
use Rattle.runs.specs.Runs.{Request, outcomes, run, step}
use Rattle.isolation.specs.Share.{Alike, ChangesOnlyItsShare, IsSealed, Separate}

-- an operator that task P calls; a load call is no task's
abbrev pub is_by : ℕ → Call → Bool
is_by P (load c) = false
is_by P (operator q c) = q == P

-- the calls of the task in a list
abbrev pub calls_of : ℕ → List Request → List Request
calls_of P rs = filter (λ r. is_by P r.call) rs

-- of the outcomes of a list, those of the task's calls
abbrev pub outcomes_of : ℕ → List Request → List Outcome → List Outcome
outcomes_of P rs os =
    map (λ (x : Request × Outcome). x.1) (filter (λ x. is_by P x.0.call) (zip rs os))

-- what the task sees of a list that is run on a store: the answers or faults of its calls, and the
-- buffers
abbrev pub seen_by : ℕ → List Request → State → List Outcome
seen_by P rs s = outcomes_of P rs (outcomes rs s)

-- no call of the task changes anything outside its share as it stood before that call
abbrev pub StaysInItsShare : ℕ → List Request → State → Type 0
StaysInItsShare P [] s = Unit {0}
StaysInItsShare P (r ∷ rs) s =
    (is_by P r.call ≡ true → ChangesOnlyItsShare P s (step r s))
    × StaysInItsShare P rs (step r s)

-- what is asked of a task, two stores and a list of calls for each
pub record AreComparable (P : ℕ) (s u : State) (ls rs : List Request) : Type 0 where
  -- it is one of the eight tasks
  pub from_1 : 1 ≤ P
  pub to_8 : P ≤ 8
  -- the stores are sealed and alike in its share
  pub sealed : IsSealed s
  pub sealed_too : IsSealed u
  pub alike : Alike P s u
  -- it is separate in each
  pub separate : Separate P s
  pub separate_too : Separate P u
  -- the lists hold the same calls of the task in the same order
  pub same_calls : calls_of P ls ≡ calls_of P rs

-- what then holds
pub record SeesNoDifference (P : ℕ) (s u : State) (ls rs : List Request) : Type 0 where
  -- the outcomes of its calls are the same
  pub same_outcomes : seen_by P ls s ≡ seen_by P rs u
  -- afterwards the stores are alike in its share
  pub still_alike : Alike P (run ls s) (run rs u)
  -- and none of its calls has changed anything outside its share
  pub in_its_share : StaysInItsShare P ls s
  pub in_its_share_too : StaysInItsShare P rs u

abbrev pub Isolation : Type 0
Isolation = (P : ℕ) (s u : State) (ls rs : List Request) → AreComparable P s u ls rs →
    SeesNoDifference P s u ls rs
