-- A sealed store is sound, sealed, and stands over a bank that is large enough; no task has made a
-- call.
use Rattle.std.proofs.Common.{◌≡◌, ℕ, ◌≤◌, Bool, true, false, not, nat_le, [], length, Ok, Err, Result, IfOk, refl, sym, subst}
use Rattle.std.proofs.lemmas.Bool.{leb-true}
use Rattle.rules.specs.declared.fault.Fault.{Fault}
use Rattle.rules.specs.State.{State, empty, level, stack}
use Rattle.rules.specs.Tests.{loading}
use Rattle.rules.specs.Effects.{Planned, apply, done, sealing}
use Rattle.rules.specs.Loading.{seal_plan}
use Rattle.rules.specs.declared.call.Answer.TheVariants.{Done}
use Rattle.rules.specs.Calls.{doing, outcome}
use Rattle.runs.specs.Runs.{outcome_by, run, step}
use Rattle.soundness.specs.Sound.{Sound}
use Rattle.soundness.proofs.Binds.{after, after_check, check_is}
use Rattle.soundness.proofs.Starts.{empty_sound}
use Rattle.soundness.proofs.Steps.{run_sound, step_sound}
use Rattle.isolation.specs.Share.{IsSealed, seal}

-- sealed, over a large bank, each task at level 1 or not loaded
record Ready (t : State) : Type 0 where
  is_sealed : t.sealed ≡ true
  is_large : 18432 ≤ length t.bytes
  is_low : (q : ℕ) → level t q ≤ 1

not_true : (b : Bool) → not b ≡ true → b ≡ false
not_true true e = cc
not_true false e = refl

module _ (t : State) (g : Sound t) where
  loading_open : IfOk (loading t 0) (λ _. (18432 ≤ length t.bytes) × (t.sealed ≡ false))
  unfolding loading
  loading_open =
      after_check _ (nat_le 18432 (length t.bytes)) _ _
      (λ large. check_is _ (not t.sealed) _ (λ open_yet. (leb-true 18432 (length t.bytes) large, not_true t.sealed open_yet)))

  seal_ready : IfOk (seal_plan t) (λ p. Ready (apply p.effect t))
  unfolding seal_plan sealing level stack
  seal_ready = after _ _ (loading t 0) _ loading_open (λ _ known. record { is_sealed = refl; is_large = known.0; is_low = g.loading known.1 })

  made_ready : (outcome_by seal t).answer ≡ Ok Done → Ready (step seal t)
  unfolding outcome
  made_ready made = go (seal_plan t) seal_ready made
    where
      go : (r : Result (Planned (Unit {0})) Fault) → IfOk r (λ p. Ready (apply p.effect t)) → (doing [] (done t r)).0.answer ≡ Ok Done → Ready (done t r).1
      go (Ok p) h m = h
      go (Err f) h m = cc

module _ (s : State) (i : IsSealed s) where
  loaded_sound : Sound (run i.loads (empty i.bytes))
  loaded_sound = run_sound i.loads (empty i.bytes) (empty_sound i.bytes)

  pub sealed_sound : Sound s
  sealed_sound = subst Sound (sym i.is_it) (step_sound _ loaded_sound seal)

  ready : Ready s
  ready = subst Ready (sym i.is_it) (made_ready (run i.loads (empty i.bytes)) loaded_sound i.seal_is_made)

  pub sealed_is : s.sealed ≡ true
  sealed_is = ready.is_sealed

  pub sealed_large : 18432 ≤ length s.bytes
  sealed_large = ready.is_large

  pub sealed_low : (q : ℕ) → level s q ≤ 1
  sealed_low = ready.is_low
