-- Every effect that fits keeps a store sound, and so does every call and every list of calls.
use Rattle.std.proofs.Common.{◌≡◌, ℕ, ◌+◌, ◌*◌, List, [], ◌∷◌, length, take, Some, Ok, Err, Result, IfOk, IfErr, sym, refl, subst, arith}
use Rattle.rules.specs.declared.call.Call.{Call}
use Rattle.rules.specs.declared.call.Call.TheVariants.{Load as load, Operator as operator}
use Rattle.rules.specs.declared.call.Operator.{Operator}
use Rattle.rules.specs.declared.entry.Entry.{Entry}
use Rattle.rules.specs.declared.entry.Entry.TheVariants.{Object}
use Rattle.rules.specs.declared.entry.Storage.{Storage}
use Rattle.rules.specs.declared.descriptor.Descriptor.{Descriptor}
use Rattle.rules.specs.declared.shown.Place.{Place}
use Rattle.rules.specs.State.{State, block_start, encode, entry, level, stack, table}
use Rattle.rules.specs.Effects.{Effect, keep, put_word, write_bytes, add_entry, add_named, start_task, open_context, close_context, seal, add, apply, enter, first_slot, leave, new_object, next_index, overwrite, put}
use Rattle.rules.specs.Calls.{operator_outcome, outcome}
use Rattle.runs.specs.Requests.{IsCutOff, IsRun, listed}
use Rattle.runs.specs.Runs.{Request, run, step}
use Rattle.runs.specs.declared.request.Request.{Request as CodedRequest}
use Rattle.soundness.specs.Sound.{NullOrLive, MayName, Sound, slot_of}
use Rattle.soundness.proofs.Additions.{added_sound, entry_new, entry_old, kept_added, opened_sound}
use Rattle.soundness.proofs.Binds.{step_by}
use Rattle.soundness.proofs.Changes.{AddsPlain, SlotIn}
use Rattle.soundness.proofs.Fits.{Closes, Enters, Fits, InData, MayNameNew, MayPut, in_data, no_bytes}
use Rattle.soundness.proofs.Leaves.{leave_sound}
use Rattle.soundness.proofs.Loads.{load_plan}
use Rattle.soundness.proofs.Operators.{comes_fits}
use Rattle.soundness.proofs.Overwrites.{put_in_sound, put_sound, write_nothing_sound, write_sound}
use Rattle.soundness.proofs.Plans.{operator_plan}
use Rattle.soundness.proofs.Starts.{sealing_sound}
use Rattle.rules.proofs.Words.{IsSmall, encode_small, names_encoded}

module _ (s : State) (g : Sound s) where
  written_sound : (a : ℕ) (bs : List ℕ) → InData s a (length bs) → Sound (overwrite a bs s)
  written_sound a [] h = write_nothing_sound s a g
  written_sound a (b ∷ bs) (no_bytes e) = absurd (omega arith)
  written_sound a (b ∷ bs) (in_data t i o is from to) = write_sound s t i o a (b ∷ bs) g is from to

  -- a new entry, and the word that names it put into an old slot
  named_sound : (t : ℕ) (e : Entry) (l : Place) (rights : ℕ) → AddsPlain s (add t e s) t e → MayNameNew s t e l rights → Sound (put l (encode (record { table = t; index = next_index s t; rights = rights })) (add t e s))
  named_sound t e l rights p n = put_sound u l (encode d) (added_sound s u t e g p) slot (encode_small d small) (NullOrLive.names d (names_encoded u d e small new) may)
    where
      u : State
      u = add t e s

      d : Descriptor
      d = record { table = t; index = next_index s t; rights = rights }

      small : IsSmall d
      small = record { table = omega (arith, p.addable.known); index = omega (arith, p.addable.few); rights = omega (arith, n.few_rights) }

      new : entry u t (next_index s t) ≡ Some e
      new = entry_new s u t e p.adds

      slot : SlotIn u l
      slot =
          record {
            object = n.slot_in.object;
            is_there = entry_old s u t e p.adds l.by.owner l.by.object (Object n.slot_in.object) n.slot_in.is_there;
            base_is = n.slot_in.base_is;
            level_is = n.slot_in.level_is;
            within = n.slot_in.within;
          }

      may : MayName u l.by.owner l.by.level d
      may = record { no_context = rw new p.no_context; no_higher = rw new n.no_higher; at_home = λ up. n.at_home (rw new at up) }

  -- a new context, and a word put into its slot 0
  opened_with_sound : (q k w : ℕ) → Enters s q k → MayPut s q (level s q + 1) w → Sound (apply (open_context q k w) s)
  unfolding new_object
  opened_with_sound q k w p n =
      let u : State = enter q k s in
      let o : Storage = record { base = block_start q + (table s q).claim + 4 * k; bytes = 0; slots = k; kind = 1; level = level s q + 1 } in
      let same : first_slot s q k ≡ slot_of o 0 = omega arith in
      rw same
      (put_in_sound u q (next_index s q) o 0 w (opened_sound s u q (Object o) g p) (entry_new s u q (Object o) p.adds) (omega (arith, p.has_slots o refl)) n.is_word
      (kept_added s u q (Object o) p.adds q (level s q + 1) w n.kept))

  closed_sound : (q c : ℕ) (l : Place) (w : ℕ) → Closes s q c l w → Sound (leave q c (put l w s))
  unfolding put overwrite stack
  closed_sound q c l w h = leave_sound (put l w s) q c h.calling h.outer (put_sound s l w g h.slot_in h.may_put.is_word h.may_put.kept) h.known h.opened

  pub effect_sound : (x : Effect) → Fits s x → Sound (apply x s)
  effect_sound keep h = g
  effect_sound (put_word l w) h = put_sound s l w g h.0 h.1.is_word h.1.kept
  effect_sound (write_bytes a bs) h = written_sound a bs h
  effect_sound (add_entry t e) h = added_sound s (add t e s) t e g h
  effect_sound (add_named t e l rights) h = named_sound t e l rights h.0 h.1
  effect_sound (start_task q k) h = opened_sound s (enter q k s) q (new_object s q 0 k 1 (level s q + 1)) g h
  effect_sound (open_context q k w) h = opened_with_sound q k w h.0 h.1
  effect_sound (close_context q c l w) h = closed_sound q c l w h
  effect_sound seal h = sealing_sound s g

  pub operator_sound : (q : ℕ) (c : Operator) (bs : List ℕ) → Sound (operator_outcome q c bs s).1
  operator_sound q c bs = step_by _ (operator_plan q c bs) s Sound g (λ x from. effect_sound x (comes_fits s g q x from))

  -- what holds of the state, and of it after each effect that fits, holds after every request
  pub by_effects : (W : State → Type 0) → W s → ((x : Effect) → Fits s x → W (apply x s)) → (r : Request) → W (step r s)
  unfolding outcome
  by_effects W same moved r = go r.call
    where
      go : (c : Call) → W (outcome c r.bytes s).1
      go (load c) = step_by _ (load_plan c r.bytes) s W same (λ x known. moved x (known.fits g))
      go (operator q c) = step_by _ (operator_plan q c r.bytes) s W same (λ x from. moved x (comes_fits s g q x from))

  pub step_sound : (r : Request) → Sound (step r s)
  step_sound = by_effects Sound g effect_sound

pub run_sound : (rs : List Request) (s : State) → Sound s → Sound (run rs s)
unfolding run
run_sound [] s g = g
run_sound (r ∷ rs) s g = run_sound rs (step r s) (step_sound s g r)

-- a list of calls of which, where memory ran out, only the first were made
pub cut_run_sound : (xs : List CodedRequest) (s u : State) {X E : Type 0} (r : Result X E) → IfOk r (λ _. IsRun xs s u) → IfErr r (λ _. IsCutOff xs s u) → Sound s → Sound u
cut_run_sound xs s u (Ok x) made cut g = subst Sound (sym made) (run_sound (listed xs) s g)
cut_run_sound xs s u (Err e) made cut g = subst Sound (sym cut.1) (run_sound (listed (take cut.0 xs)) s g)
