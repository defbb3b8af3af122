-- Once a store is sealed, no side gains of what stands in it.
use Rattle.std.proofs.Common.{◌≡◌, ◌⊎◌, ℕ, true, List, [], ◌∷◌, take, Some, None, Ok, Err, Result, IfOk, IfErr, slice_index, refl, ◌∙◌, inl, inr}
use Rattle.std.proofs.lemmas.Bool.{cases_eq}
use Rattle.rules.specs.declared.call.Call.{Call}
use Rattle.rules.specs.declared.call.Call.TheVariants.{Load as load, Operator as operator}
use Rattle.rules.specs.declared.call.Operator.{Operator}
use Rattle.rules.specs.declared.entry.Entry.{Entry}
use Rattle.rules.specs.declared.entry.Entry.TheVariants.{Object}
use Rattle.rules.specs.declared.entry.Storage.{Storage}
use Rattle.rules.specs.Calls.{operator_outcome, outcome}
use Rattle.rules.specs.State.{State, entry}
use Rattle.runs.specs.Runs.{Request, run, step}
use Rattle.runs.specs.declared.request.Request.{Request as CodedRequest}
use Rattle.soundness.specs.Sound.{Sound, Takes}
use Rattle.soundness.proofs.Returns.{sealed_entries_last}
use Rattle.soundness.proofs.Steps.{operator_sound, step_sound}
use Rattle.isolation.specs.Gains.{GainsNothing, NothingGained, NothingIsGained, everyone}
use Rattle.runs.specs.Requests.{IsCutOff, IsRun, listed}
use Rattle.isolation.specs.Reach.{Alters, Reaches, Side, only, others}
use Rattle.isolation.specs.Share.{IsSealed}
use Rattle.isolation.proofs.Alikes.{alters_back, reaches_back}
use Rattle.isolation.proofs.Apart.{changed_altered}
use Rattle.isolation.proofs.Growth.{alters_grows, no_fresh, reaches_grows}
use Rattle.isolation.proofs.Matches.{Matches}
use Rattle.isolation.proofs.Moves.{Moved, fresh}
use Rattle.isolation.proofs.Runs.{Fine, fine_call, load_idle, only_match, operator_moves, others_match, sealed_fine}
use Rattle.isolation.proofs.Sides.{alters_more}
use Rattle.isolation.proofs.Starts.{sealed_is, sealed_low, sealed_sound}

gains_refl : (A : Side) (s : State) → GainsNothing A s s
gains_refl A s = record { reaches = λ t i e is r. r; alters = λ t i e is r. r }

module _ (s u : State) (q : ℕ) (g : Sound s) (j : Sound u) (A : Side) where
  -- what stands is not the entry that a call adds
  not_new : (t i : ℕ) (e : Entry) {X : Type 0} → entry s t i ≡ Some e → X ⊎ ((t ≡ q) × (i ≡ fresh s q)) → X
  not_new t i e is (inl x) = x
  not_new t i e is (inr (home, next)) = let none : entry s t i ≡ None = rw (home, next) (no_fresh s q) in absurd cc

  -- so a call of one of its tasks gives a side nothing of it
  own_gains : Moved s u q → A q → GainsNothing A s u
  own_gains m mine =
      record {
        reaches = λ t i e is r. not_new t i e is (reaches_grows s u q g j m A mine t i r);
        alters = λ t i e is r. not_new t i e is (alters_grows s u q g j m A mine t i r);
      }

  -- nor does a call after which all that it reaches is as it was
  matching_gains : Matches A s u → GainsNothing A s u
  matching_gains m = record { reaches = λ t i e is. reaches_back A s u m g j t i; alters = λ t i e is. alters_back A s u m g j t i }

-- a sound store that is sealed
record Running (s : State) : Type 0 where
  sound : Sound s
  sealed : s.sealed ≡ true

-- an operator that a task calls
module _ (q : ℕ) (c : Operator) (bs : List ℕ) (s : State) (g : Sound s) (A : Side) where
  abbrev u : State
  u = (operator_outcome q c bs s).1

  of_own : A q → GainsNothing A s u
  of_own = own_gains s u q g (operator_sound s g q c bs) A (operator_moves q c bs s g)

  of_matching : Matches A s u → GainsNothing A s u
  of_matching = matching_gains s u q g (operator_sound s g q c bs) A

-- any call
module _ (bs : List ℕ) (s : State) where
  running_call : (c : Call) → Running s → (outcome c bs s).1.sealed ≡ true
  unfolding outcome
  running_call (load c) f = rw (load_idle s f.sealed c bs) f.sealed
  running_call (operator q c) f = (operator_moves q c bs s f.sound).sealed ∙ f.sealed

  together_call : (c : Call) → Running s → GainsNothing everyone s (outcome c bs s).1
  unfolding outcome
  together_call (load c) f = rw (load_idle s f.sealed c bs) (gains_refl everyone s)
  together_call (operator q c) f = of_own q c bs s f.sound everyone tt

  constant_call : (t i : ℕ) (o : Storage) (a : ℕ) (c : Call) → Running s → entry s t i ≡ Some (Object o) → (Alters s everyone t i → ⊥) → Takes o a → slice_index (outcome c bs s).1.bytes a ≡ slice_index s.bytes a
  unfolding outcome
  constant_call t i o a (load c) f is none takes = rw (load_idle s f.sealed c bs) refl
  constant_call t i o a (operator q c) f is none takes =
      elim ((operator_moves q c bs s f.sound).bytes a) [
        | inl same ↦ same
        | inr may ↦ absurd (none (alters_more s (only q) everyone (λ v e. tt) t i (changed_altered s q f.sound t i o a is takes may)))
      ]

  alone_call : (P : ℕ) (c : Call) → Fine P s → GainsNothing (only P) s (outcome c bs s).1
  unfolding outcome
  alone_call P (load c) f = rw (load_idle s f.sealed c bs) (gains_refl (only P) s)
  alone_call P (operator q c) f =
      elim (cases_eq q P) [
        | inl own ↦ of_own q c bs s f.sound (only P) own
        | inr ne ↦ of_matching q c bs s f.sound (only P) (only_match P q c bs s f ne)
      ]

  others_call : (P : ℕ) (c : Call) → Fine P s → GainsNothing (others P) s (outcome c bs s).1
  unfolding outcome
  others_call P (load c) f = rw (load_idle s f.sealed c bs) (gains_refl (others P) s)
  others_call P (operator q c) f =
      elim (cases_eq q P) [
        | inl own ↦ of_matching q c bs s f.sound (others P) (others_match P q c bs s f own)
        | inr ne ↦ of_own q c bs s f.sound (others P) ne
      ]

running_step : (r : Request) (s : State) → Running s → Running (step r s)
running_step r s f = record { sound = step_sound s f.sound r; sealed = running_call r.bytes s r.call f }

-- lists of calls, while an entry stays: what each call takes back, all together do
module _ (t i : ℕ) (e : Entry) (R W : State → Type 0) (kept : (r : Request) (s : State) → W s → W (step r s)) (back : (r : Request) (s : State) → W s → entry s t i ≡ Some e → R (step r s) → R s) where
  all_back : (rs : List Request) (s : State) → W s → ((ns : List Request) → entry (run ns s) t i ≡ Some e) → R (run rs s) → R s
  unfolding run
  all_back [] s w stays x = x
  all_back (r ∷ rs) s w stays x = back r s w (stays []) (all_back rs (step r s) (kept r s w) (λ ns. stays (r ∷ ns)) x)

-- bytes that none can alter
constant_run : (t i : ℕ) (o : Storage) (a : ℕ) → Takes o a → (rs : List Request) (s : State) → Running s → ((ns : List Request) → entry (run ns s) t i ≡ Some (Object o)) → (Alters s everyone t i → ⊥) → slice_index (run rs s).bytes a ≡ slice_index s.bytes a
unfolding run
constant_run t i o a takes [] s f stays none = refl
constant_run t i o a takes (r ∷ rs) s f stays none =
    let back : Alters (step r s) everyone t i → Alters s everyone t i = (together_call r.bytes s r.call f).alters t i (Object o) (stays []) in
    constant_run t i o a takes rs (step r s) (running_step r s f) (λ ns. stays (r ∷ ns)) (λ x. none (back x)) ∙ constant_call r.bytes s t i o a r.call f (stays []) none takes

module _ (A : Side) (W : State → Type 0) (kept : (r : Request) (s : State) → W s → W (step r s)) (none : (r : Request) (s : State) → W s → GainsNothing A s (step r s)) where
  run_gains : (rs : List Request) (s : State) → W s → ((ns : List Request) (t i : ℕ) (e : Entry) → entry s t i ≡ Some e → entry (run ns s) t i ≡ Some e) → GainsNothing A s (run rs s)
  run_gains rs s w stays =
      record {
        reaches = λ t i e is. all_back t i e (λ v. Reaches v A t i) W kept (λ r v f there. (none r v f).reaches t i e there) rs s w (λ ns. stays ns t i e is);
        alters = λ t i e is. all_back t i e (λ v. Alters v A t i) W kept (λ r v f there. (none r v f).alters t i e there) rs s w (λ ns. stays ns t i e is);
      }

pub nothing_is_gained : NothingIsGained
nothing_is_gained s rs i =
    let stays = λ (ns : List Request). sealed_entries_last s ns (sealed_sound s i) (sealed_low s i) in
    let start : Running s = record { sound = sealed_sound s i; sealed = sealed_is s i } in
    let fine = λ (P : ℕ) (r : Request) (v : State) (f : Fine P v). fine_call P r.call r.bytes v f in
    record {
      lasts = stays rs;
      together = run_gains everyone Running running_step (λ r v f. together_call r.bytes v r.call f) rs s start stays;
      constant = λ t i o a is none takes. constant_run t i o a takes rs s start (λ ns. stays ns t i (Object o) is) none;
      alone = λ P apart. run_gains (only P) (Fine P) (fine P) (λ r v f. alone_call r.bytes v P r.call f) rs s (sealed_fine P s i apart) stays;
      the_others = λ P apart. run_gains (others P) (Fine P) (fine P) (λ r v f. others_call r.bytes v P r.call f) rs s (sealed_fine P s i apart) stays;
    }

-- also where memory runs out and only the first calls of a list were made
pub nothing_gained : (xs : List CodedRequest) (s u : State) {X E : Type 0} (r : Result X E) → IfOk r (λ _. IsRun xs s u) → IfErr r (λ _. IsCutOff xs s u) → IsSealed s → NothingGained s u
nothing_gained xs s u (Ok x) made cut i = rw made (nothing_is_gained s (listed xs) i)
nothing_gained xs s u (Err e) made (n, first) i = rw first (nothing_is_gained s (listed (take n xs)) i)
