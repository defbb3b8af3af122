-- What holds of the plan of a call, test after test: each test gives what it found to the rest.
use Rattle.std.proofs.Common.{if◌then◌else◌, ◌≡◌, ℕ, Bool, true, false, List, Some, None, Ok, Err, Option, Result, refl, sym, subst}
use Rattle.std.specs.Result.{IfOk}
use Rattle.rules.specs.declared.call.Answer.{Answer}
use Rattle.rules.specs.declared.fault.Fault.{Fault}
use Rattle.rules.specs.State.{State}
use Rattle.rules.specs.Tests.{◌≫=◌, check, some}
use Rattle.rules.specs.Effects.{Effect, Planned, apply, done}
use Rattle.rules.specs.Calls.{Outcome, answer_of, answering, filled, filling}

-- what is known of what the first test finds
pub after : {X Y : Type 0} (F : X → Type 0) (P : Y → Type 0) (r : Result X Fault) (f : X → Result Y Fault) → IfOk r F → ((x : X) → F x → IfOk (f x) P) → IfOk (r ≫= f) P
after F P (Ok x) f known rest = rest x known
after F P (Err e) f known rest = tt

pub after_check : {Y : Type 0} (P : Y → Type 0) (b : Bool) (e : Fault) (f : Unit {0} → Result Y Fault) → (b ≡ true → IfOk (f tt) P) → IfOk (check b e ≫= f) P
after_check P true e f rest = rest refl
after_check P false e f rest = tt

pub after_some : {X Y : Type 0} (P : Y → Type 0) (o : Option X) (e : Fault) (f : X → Result Y Fault) → ((x : X) → o ≡ Some x → IfOk (f x) P) → IfOk (some o e ≫= f) P
after_some P (Some x) e f rest = rest x refl
after_some P None e f rest = tt

pub check_is : (P : Unit {0} → Type 0) (b : Bool) (e : Fault) → (b ≡ true → P tt) → IfOk (check b e) P
check_is P true e rest = rest refl
check_is P false e rest = tt

pub some_is : {X : Type 0} (P : X → Type 0) (o : Option X) (e : Fault) → ((x : X) → o ≡ Some x → P x) → IfOk (some o e) P
some_is P (Some x) e rest = rest x refl
some_is P None e rest = tt

pub either : {Y : Type 0} (P : Y → Type 0) (b : Bool) (x y : Result Y Fault) → IfOk x P → IfOk y P → IfOk (if b then x else y) P
either P true x y h g = h
either P false x y h g = g

-- a call is made by a plan: K is known of the effect, where it has one, and the outcome is told of
-- the answer or the fault
pub record HasPlan (K : State → Effect → Type 0) (f : State → Outcome × State) : Type 1 where
  pub Found : Type 0
  pub told : Result Found Fault → Outcome
  pub plan : State → Result (Planned Found) Fault
  pub is_made : (s : State) → f s ≡ (told (done s (plan s)).0, (done s (plan s)).1)
  pub known : (s : State) → IfOk (plan s) (λ p. K s p.effect)

module _ {K : State → Effect → Type 0} where
  -- a call that leaves its buffer as it is, and one that fills it
  abbrev pub answers : {X : Type 0} (g : X → Answer) (bs : List ℕ) (plan : State → Result (Planned X) Fault) → ((s : State) → IfOk (plan s) (λ p. K s p.effect)) → HasPlan K (λ s. answering g bs (done s (plan s)))
  answers g bs plan known = record { Found = _; told = λ r. record { answer = answer_of g r; buffer = bs }; plan = plan; is_made = λ s. refl; known = known }

  abbrev pub fills : (bs : List ℕ) (plan : State → Result (Planned (List ℕ)) Fault) → ((s : State) → IfOk (plan s) (λ p. K s p.effect)) → HasPlan K (λ s. filling bs (done s (plan s)))
  fills bs plan known = record { Found = _; told = filled bs; plan = plan; is_made = λ s. refl; known = known }

  -- what holds of a state, and after each effect that the call may have, holds after the call
  pub step_by : (f : State → Outcome × State) (h : HasPlan K f) (s : State) (W : State → Type 0) → W s → ((x : Effect) → K s x → W (apply x s)) → W (f s).1
  step_by f h s W same moved = subst (λ (x : Outcome × State). W x.1) (sym (h.is_made s)) (go (h.plan s) (h.known s))
    where
      go : (r : Result (Planned h.Found) Fault) → IfOk r (λ p. K s p.effect) → W (done s r).1
      go (Ok p) k = moved p.effect k
      go (Err e) k = same
