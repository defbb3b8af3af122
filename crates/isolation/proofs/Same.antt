-- The lists of the code: outcomes that are compared and kept, requests that are run.
use Rattle.std.proofs.Common.{append-nil, ◌≡◌, ◌⊎◌, ℕ, Bool, true, false, List, [], ◌∷◌, ◌++◌, map, refl, sym, ◌∙◌, inl, inr, length, arith}
use Rattle.std.proofs.lemmas.Bool.{and_parts, both_ways}
use Rattle.rules.specs.Calls.{Outcome}
use Rattle.runs.specs.Requests.{IsCutOff, IsRun, listed, outcome_of}
use Rattle.runs.specs.declared.request.Outcome.{Outcome as CodedOutcome}
use Rattle.runs.specs.declared.request.Request.{Request as CodedRequest}
use Rattle.rules.specs.State.{State}
use Rattle.std.proofs.lemmas.List.{take_all}
use Rattle.isolation.specs.Theorem.{outcomes_of}
use lib.Pointwise.{pointwise}

-- lists that are equal element by element, as far as a function sees them
module _ {X Y : Type 0} (E : X → X → Bool) (f : X → Y) (same : (a b : X) → (E a b ≡ true → f a ≡ f b) × (f a ≡ f b → E a b ≡ true)) where
  pub same_lists : (xs ys : List X) → (pointwise E xs ys ≡ true → map f xs ≡ map f ys) × (map f xs ≡ map f ys → pointwise E xs ys ≡ true)
  same_lists [] [] = (λ _. refl, λ _. refl)
  same_lists [] (y ∷ ys) = (λ e. absurd (both_ways false refl e), λ e. cc)
  same_lists (x ∷ xs) [] = (λ e. absurd (both_ways false refl e), λ e. cc)
  same_lists (x ∷ xs) (y ∷ ys) =
      let rest = same_lists xs ys in (
        λ e. let p = and_parts (E x y) (pointwise E xs ys) e in let a = (same x y).0 p.0 in let b = rest.0 p.1 in cc,
        λ e. let a : f x ≡ f y = cc in let b : map f xs ≡ map f ys = cc in rw ((same x y).1 a, rest.1 b),
      )

-- where the requests or the outcomes have ended, all outcomes of the task are kept
pub all_kept : (P : ℕ) (os ws : List Outcome) (xs : List CodedRequest) (ys : List CodedOutcome) → (xs ≡ []) ⊎ (ys ≡ []) → os ++ outcomes_of P (listed xs) (map outcome_of ys) ≡ ws → os ≡ ws
all_kept P os ws [] ys e so_far = sym (append-nil os) ∙ so_far
all_kept P os ws (x ∷ xs) [] e so_far = sym (append-nil os) ∙ so_far
all_kept P os ws (x ∷ xs) (y ∷ ys) (inl e) so_far = cc
all_kept P os ws (x ∷ xs) (y ∷ ys) (inr e) so_far = cc

-- a list that was run to its end
pub all_run : (xs : List CodedRequest) (s u : State) → IsRun xs s u → IsCutOff xs s u
all_run xs s u made = (length xs, rw (take_all (length xs) xs (omega arith)) made)
