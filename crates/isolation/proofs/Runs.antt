-- A separate task cannot tell two stores apart: from single calls to lists of calls.
use Rattle.std.proofs.Common.{◌≡◌, ◌≢◌, ◌⊎◌, ℕ, ◌≤◌, true, List, [], ◌∷◌, length, take, refl, sym, subst, ◌∙◌, inl, inr, arith, ◌↔◌, Bool, Ok, Err, Result, IfOk, false}
use Rattle.std.proofs.lemmas.Bool.{both_ways, cases_eq, eqb-true}
use Rattle.std.proofs.lemmas.Bool.Decides.{eqb_tells}
use Rattle.rules.specs.declared.call.Call.{Call}
use Rattle.rules.specs.declared.call.Call.TheVariants.{Load as load, Operator as operator}
use Rattle.rules.specs.declared.call.Load.{Load}
use Rattle.rules.specs.declared.call.Operator.{Operator}
use Rattle.rules.specs.State.{State, table}
use Rattle.rules.specs.Effects.{Effect, apply, keep}
use Rattle.rules.specs.Calls.{load_outcome, operator_outcome, outcome}
use Rattle.runs.specs.Runs.{Request, outcomes, run, step}
use Rattle.soundness.specs.Sound.{Sound}
use Rattle.soundness.proofs.Binds.{step_by}
use Rattle.soundness.proofs.Loads.{load_plan}
use Rattle.soundness.proofs.Origins.{Comes}
use Rattle.soundness.proofs.Operators.{comes_fits}
use Rattle.soundness.proofs.Plans.{operator_plan}
use Rattle.soundness.proofs.Steps.{effect_sound, operator_sound}
use Rattle.runs.specs.declared.request.Request.{Request as CodedRequest}
use Rattle.runs.specs.Requests.{IsCutOff, IsRun, listed}
use Rattle.isolation.specs.Lists.{NoneSeen, StoppedInItsShare}
use Rattle.isolation.specs.Reach.{Side, only, others}
use Rattle.isolation.specs.Share.{ChangesOnlyItsShare, IsSealed, Separate}
use Rattle.isolation.specs.Theorem.{AreComparable, Isolation, StaysInItsShare, calls_of, is_by, seen_by}
use Rattle.isolation.proofs.Alikes.{alike_matches, matches_alike, matches_refl, matches_sym, matches_trans}
use Rattle.isolation.proofs.Apart.{Apart, apart_kept, other_matches}
use Rattle.isolation.proofs.Both.{both_matches, both_tables}
use Rattle.isolation.proofs.Effects.{comes_moved, moved_in_share}
use Rattle.isolation.proofs.Equal.{same_outcome, step_both}
use Rattle.isolation.proofs.Growth.{reaches_grows}
use Rattle.isolation.proofs.Matches.{Matches, same_level}
use Rattle.isolation.proofs.Moves.{Moved}
use Rattle.isolation.proofs.Starts.{sealed_is, sealed_large, sealed_sound}

-- all that goes along with a store
pub record Fine (P : ℕ) (s : State) : Type 0 where
  pub sound : Sound s
  pub sealed : s.sealed ≡ true
  pub large : 18432 ≤ length s.bytes
  pub apart : Apart s (only P) (others P)

-- alike, as far as it matters for what comes
record Like (P : ℕ) (s u : State) : Type 0 where
  matches : Matches (only P) s u
  same_table : table s P ≡ table u P

swap : (s : State) (A B : Side) → Apart s A B → Apart s B A
swap s A B f t i on_b on_a = let z = f t i on_a on_b in (z.1, z.0)

-- a load call changes nothing in a sealed store
pub load_idle : (s : State) → s.sealed ≡ true → (c : Load) (bs : List ℕ) → (load_outcome c bs s).1 ≡ s
load_idle s sealed c bs = step_by _ (load_plan c bs) s (λ u. u ≡ s) refl (λ x known. absurd (both_ways s.sealed known.open_yet sealed))

-- an operator that a task calls moves a sound store
pub operator_moves : (q : ℕ) (c : Operator) (bs : List ℕ) (s : State) → Sound s → Moved s (operator_outcome q c bs s).1 q
operator_moves q c bs s g = step_by _ (operator_plan q c bs) s (λ v. Moved s v q) (comes_moved s q keep g Comes.keeps) (λ x from. comes_moved s q x g from)

module _ (P q : ℕ) (c : Operator) (bs : List ℕ) (s : State) (f : Fine P s) where
  abbrev u : State
  u = (operator_outcome q c bs s).1

  m : Moved s u q
  m = operator_moves q c bs s f.sound

  sound_after : Sound u
  sound_after = operator_sound s f.sound q c bs

  apart_after : Apart u (only P) (others P)
  apart_after =
      elim (cases_eq q P) [
        | inl e ↦ apart_kept s u q f.sound sound_after m (only P) (others P) e (λ n. n e) f.apart
        | inr ne ↦ swap u (others P) (only P) (apart_kept s u q f.sound sound_after m (others P) (only P) ne ne (swap s (only P) (others P) f.apart))
      ]

  fine_after : Fine P u
  fine_after = record { sound = sound_after; sealed = m.sealed ∙ f.sealed; large = omega (arith, m.size, f.large); apart = apart_after }

  -- if it is another task, nothing changes for P; if it is P itself, nothing for the others
  pub only_match : q ≢ P → Matches (only P) s u
  only_match ne = other_matches s u q f.sound sound_after m (others P) (only P) ne ne (swap s (only P) (others P) f.apart)

  pub others_match : q ≡ P → Matches (others P) s u
  others_match e = other_matches s u q f.sound sound_after m (only P) (others P) e (λ n. n e) f.apart

  like_after : q ≢ P → Like P s u
  like_after ne =
      record {
        matches = only_match ne;
        same_table = sym (m.other_tables P (λ e. ne (sym e)));
      }

  in_share : q ≡ P → ChangesOnlyItsShare P s u
  in_share e = subst (λ p. ChangesOnlyItsShare p s u) e (moved_in_share s u q m)

module _ (P : ℕ) where
  like_refl : (s : State) → Like P s s
  like_refl s = record { matches = matches_refl (only P) s; same_table = refl }

  like_sym : (s u : State) → Fine P s → Fine P u → Like P s u → Like P u s
  like_sym s u f h l = record { matches = matches_sym (only P) s u l.matches f.sound h.sound; same_table = sym l.same_table }

  like_trans : (s u v : State) → Fine P s → Fine P u → Like P s u → Like P u v → Like P s v
  like_trans s u v f h l n = record { matches = matches_trans (only P) s u l.matches f.sound h.sound v n.matches; same_table = l.same_table ∙ n.same_table }

moved_sound : (s : State) (P : ℕ) → Fine P s → (x : Effect) → Comes s P x → Sound (apply x s)
moved_sound s P f x from = effect_sound s f.sound x (comes_fits s f.sound P x from)

-- the task's own call, in two stores that are alike to it
module _ (P : ℕ) (s u : State) (f : Fine P s) (h : Fine P u) (l : Like P s u) (c : Operator) (bs : List ℕ) where
  outcome_same : (operator_outcome P c bs s).0 ≡ (operator_outcome P c bs u).0
  outcome_same = same_outcome P s u l.matches l.same_table f.sound h.sound f.sealed h.sealed f.large h.large c bs

  like_both : Like P (operator_outcome P c bs s).1 (operator_outcome P c bs u).1
  like_both =
      step_both P s u l.matches l.same_table f.sound h.sound f.sealed h.sealed f.large h.large c bs (Like P) l (λ x from from'.
      record {
        matches = both_matches P s u l.matches l.same_table f.sound h.sound x from from' (reaches_grows s (apply x s) P f.sound (moved_sound s P f x from) (comes_moved s P x f.sound from) (only P) refl);
        same_table = both_tables P s u l.matches l.same_table f.sound h.sound x from;
      })

-- any call
module _ (P : ℕ) where
  pub fine_call : (c : Call) (bs : List ℕ) (s : State) → Fine P s → Fine P (outcome c bs s).1
  unfolding outcome
  fine_call (load c) bs s f = rw (load_idle s f.sealed c bs) f
  fine_call (operator q c) bs s f = fine_after P q c bs s f

  call_in_share : (c : Call) (bs : List ℕ) (s : State) → Fine P s → is_by P c ≡ true → ChangesOnlyItsShare P s (outcome c bs s).1
  unfolding outcome
  call_in_share (load c) bs s f own = absurd (both_ways false refl own)
  call_in_share (operator q c) bs s f own = in_share P q c bs s f (eqb-true q P own)

  -- it is the task's own, and the same in two stores that are alike to it
  abbrev Own : Call → List ℕ → State → State → Type 0
  Own c bs s u = (is_by P c ≡ true) × ((outcome c bs s).0 ≡ (outcome c bs u).0) × Like P (outcome c bs s).1 (outcome c bs u).1

  -- or it is not, and changes nothing for the task
  abbrev Foreign : Call → List ℕ → State → State → Type 0
  Foreign c bs s u = (is_by P c ≡ false) × Like P (outcome c bs s).1 u

  own_or_foreign : (c : Call) (bs : List ℕ) (s u : State) → Fine P s → Fine P u → Like P s u → Own c bs s u ⊎ Foreign c bs s u
  unfolding outcome
  own_or_foreign (load c) bs s u f h l = inr (refl, rw (load_idle s f.sealed c bs) l)
  own_or_foreign (operator q c) bs s u f h l =
      elim (eqb_tells q P) [
        | inl (t, e) ↦ inl (t, rw e (outcome_same P s u f h l c bs), rw e (like_both P s u f h l c bs))
        | inr (t, ne) ↦
            let v : State = (operator_outcome q c bs s).1 in
            let fine = fine_after P q c bs s f in
            inr (t, like_trans P v s u fine f (like_sym P s v f fine (like_after P q c bs s f ne)) l)
      ]

-- lists of calls
module _ (P : ℕ) where
  -- a run is to the task as if only its own calls were made, in any store that is alike to it
  follows : (rs : List Request) (s u : State) → Fine P s → Fine P u → Like P s u → (seen_by P rs s ≡ outcomes (calls_of P rs) u) × Like P (run rs s) (run (calls_of P rs) u)
  unfolding outcomes run
  follows [] s u f h l = (refl, l)
  follows (r ∷ rs) s u f h l =
      let fine : Fine P (step r s) = fine_call P r.call r.bytes s f in
      elim (own_or_foreign P r.call r.bytes s u f h l) [
        | inl own ↦
            let rest = follows rs (step r s) (step r u) fine (fine_call P r.call r.bytes u h) own.2 in
            rw own.0 (rw (own.1, rest.0) refl, rest.1)
        | inr foreign ↦ rw foreign.0 (follows rs (step r s) u fine h foreign.1)
      ]

  pub fine_run : (rs : List Request) (s : State) → Fine P s → Fine P (run rs s)
  unfolding run
  fine_run [] s f = f
  fine_run (r ∷ rs) s f = fine_run rs (step r s) (fine_call P r.call r.bytes s f)

  stays : (rs : List Request) (s : State) → Fine P s → StaysInItsShare P rs s
  stays [] s f = tt
  stays (r ∷ rs) s f = (call_in_share P r.call r.bytes s f, stays rs (step r s) (fine_call P r.call r.bytes s f))

-- a sealed store in which the task is separate
pub sealed_fine : (P : ℕ) (s : State) → IsSealed s → Separate P s → Fine P s
sealed_fine P s i apart = record { sound = sealed_sound s i; sealed = sealed_is s i; large = sealed_large s i; apart = apart }

pub isolated : Isolation
isolated P s u ls rs c =
    let f : Fine P s = sealed_fine P s c.sealed c.separate in
    let h : Fine P u = sealed_fine P u c.sealed_too c.separate_too in
    let l : Like P s u = record { matches = alike_matches P s u f.sound h.sound c.alike; same_table = c.alike.same_table } in
    let left = follows P ls s s f f (like_refl P s) in
    let right = follows P rs u s h f (like_sym P s u f h l) in
    let right' : (seen_by P rs u ≡ outcomes (calls_of P ls) s) × Like P (run rs u) (run (calls_of P ls) s) = rw c.same_calls right in
    let mine = fine_run P (calls_of P ls) s f in
    let on_left = fine_run P ls s f in
    let on_right = fine_run P rs u h in
    let end : Like P (run ls s) (run rs u) = like_trans P (run ls s) (run (calls_of P ls) s) (run rs u) on_left mine left.1 (like_sym P (run rs u) (run (calls_of P ls) s) on_right mine right'.1) in
    record {
      same_outcomes = left.0 ∙ sym right'.0;
      still_alike = matches_alike P (run ls s) (run rs u) on_left.sound on_right.sound end.matches (same_level P (run ls s) (run rs u) end.matches) end.same_table;
      in_its_share = stays P ls s f;
      in_its_share_too = stays P rs u h;
    }

-- so whoever runs the lists and compares the outcomes finds no difference
pub none_seen : (P : ℕ) (xs ys : List CodedRequest) (s u s' u' : State) {E : Type 0} (r : Result Bool E) → AreComparable P s u (listed xs) (listed ys) → IsRun xs s s' → IsRun ys u u' →
    IfOk r (λ b. (b ≡ false) ↔ (seen_by P (listed xs) s ≡ seen_by P (listed ys) u)) → IfOk r (NoneSeen P xs ys s u s' u')
none_seen P xs ys s u s' u' (Ok b) given made made' value =
    let holds = isolated P s u (listed xs) (listed ys) given in
    record { none = value.1 holds.same_outcomes; still_alike = rw (made, made') holds.still_alike; in_its_share = holds.in_its_share; in_its_share_too = holds.in_its_share_too }
none_seen P xs ys s u s' u' (Err e) given made made' value = tt

-- and where memory runs out, what was run stays in the share of the task
pub stopped : (P : ℕ) (xs : List CodedRequest) (s u : State) → IsSealed s → Separate P s → IsCutOff xs s u → StoppedInItsShare P xs s u
stopped P xs s u is apart (n, made) = record { made = n; is_run = made; in_its_share = stays P (listed (take n xs)) s (sealed_fine P s is apart) }
