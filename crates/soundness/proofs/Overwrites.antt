-- What leaves tables and stacks alone keeps a store sound: bytes of one object replaced, a seal.
use Rattle.std.proofs.Common.{◌≡◌, ◌⊎◌, ℕ, ◌+◌, ◌*◌, ◌<◌, ◌≤◌, Bool, false, List, [], length, Some, subst, inl, inr, arith}
use Rattle.std.proofs.lemmas.Bool.{cases_order}
use Rattle.bank.specs.Runs.{write_run}
use Rattle.bank.specs.Words.{word_at, word_bytes}
use Rattle.bank.proofs.RunLaws.{length-write_run}
use Rattle.rules.specs.declared.entry.Entry.TheVariants.{Object}
use Rattle.rules.specs.declared.entry.Storage.{Storage}
use Rattle.rules.specs.declared.shown.Place.{Place}
use Rattle.rules.specs.State.{State, table, stack, level, entry, slot_at}
use Rattle.rules.specs.Effects.{overwrite, put}
use Rattle.soundness.specs.Sound.{Sound, NullOrLive, slot_of}
use Rattle.soundness.proofs.Changes.{SlotIn}
use Rattle.bank.proofs.WordLaws.{word_elsewhere, word_written}
use Rattle.soundness.proofs.Entries.{known_table, separate_of}
use Rattle.soundness.proofs.Lasts.{Last, contexts_last, inside_lasts, word_lasts}

module _ (s : State) (h : Sound s) where
  pub is_inside_bank : (t i : ℕ) (o : Storage) → entry s t i ≡ Some (Object o) → (4 * o.slots ≤ o.base) × (o.base + o.bytes ≤ length s.bytes)
  is_inside_bank t i o is =
      let known = known_table s h t i (Object o) is in
      let large = h.large_bank t i (Object o) is in
      let claim = h.in_claim t i o is in
      let small = h.small_claim t in
      (omega (arith, claim.0), omega (arith, claim.1))

  -- two different objects lie one wholly before the other
  pub separate : (t i u j : ℕ) (o p : Storage) → entry s t i ≡ Some (Object o) → entry s u j ≡ Some (Object p) → ((t ≡ u) × (i ≡ j)) ⊎ ((o.base + o.bytes + 4 * p.slots ≤ p.base) ⊎ (p.base + p.bytes + 4 * o.slots ≤ o.base))
  separate = separate_of s h.in_claim h.small_claim h.in_order

-- the same tables and stacks with this seal and these bytes
abbrev pub retouched : State → Bool → List ℕ → State
retouched s b l = record { tables = s.tables; stacks = s.stacks; sealed = b; bytes = l }

-- what is said of tables and stacks alone stays, so it is enough that each slot holds what it may
pub retouched_sound : (s : State) (b : Bool) (l : List ℕ) → Sound s → (b ≡ false → s.sealed ≡ false) → length l ≡ length s.bytes →
    ((t i : ℕ) (o : Storage) → entry s t i ≡ Some (Object o) → (k : ℕ) → k < o.slots → NullOrLive s t o.level (word_at l (slot_of o k))) → Sound (retouched s b l)
unfolding table stack entry level
retouched_sound s b l h seal long kept =
    record {
      nine_tables = h.nine_tables;
      nine_stacks = h.nine_stacks;
      few_entries = h.few_entries;
      small_claim = h.small_claim;
      large_bank = λ t i e is. rw long (h.large_bank t i e is);
      in_claim = h.in_claim;
      in_order = h.in_order;
      apart = h.apart;
      inside = λ t i r is. inside_lasts s u t r (last t r.level) (h.inside t i r is);
      kinds = h.kinds;
      controls = h.controls;
      rising = h.rising;
      few_levels = h.few_levels;
      no_higher = h.no_higher;
      nobody = h.nobody;
      contexts = λ q. contexts_last s u q (stack s q) (last q (level s q)) (λ i c x y less there _. there) (h.contexts q);
      no_others = h.no_others;
      loading = λ f. h.loading (seal f);
      loaded = λ f. h.loaded (seal f);
      slots = λ t i o is k less. word_lasts s u t o.level (word_at l (slot_of o k)) (last t o.level) (kept t i o is k less);
    }
  where
    u : State
    u = retouched s b l

    last : (t n : ℕ) → Last s u t n
    last t n a i x is _ _ = is

-- a slot outside a run of bytes keeps its word
slot_outside : (s : State) (a : ℕ) (bs : List ℕ) (t i : ℕ) (o : Storage) (k : ℕ) → Sound s → entry s t i ≡ Some (Object o) → k < o.slots → (slot_of o k + 4 ≤ a) ⊎ (a + length bs ≤ slot_of o k) →
    NullOrLive s t o.level (word_at (write_run s.bytes a bs) (slot_of o k))
slot_outside s a bs t i o k h is less outside = rw (word_elsewhere s.bytes a bs (slot_of o k) outside) (h.slots t i o is k less)

-- bytes of one object replaced, after which each of its slots holds what it may
overwrite_sound : (s : State) (t i : ℕ) (o : Storage) (a : ℕ) (bs : List ℕ) → Sound s → entry s t i ≡ Some (Object o) → o.base ≤ a + 4 * o.slots → a + length bs ≤ o.base + o.bytes →
    ((k : ℕ) → k < o.slots → NullOrLive s t o.level (word_at (write_run s.bytes a bs) (slot_of o k))) → Sound (overwrite a bs s)
unfolding overwrite
overwrite_sound s t i o a bs h is from to kept = retouched_sound s s.sealed (write_run s.bytes a bs) h (λ f. f) (length-write_run s.bytes a bs) each
  where
    each : (v j : ℕ) (p : Storage) → entry s v j ≡ Some (Object p) → (k : ℕ) → k < p.slots → NullOrLive s v p.level (word_at (write_run s.bytes a bs) (slot_of p k))
    each v j p at k less =
        let inside = is_inside_bank s h v j p at in
        elim (separate s h t i v j o p is at) [
          | inl (e, e') ↦
              let same : o ≡ p = cc in
              subst (λ (x : Storage). NullOrLive s v x.level (word_at (write_run s.bytes a bs) (slot_of x k))) same (rw (← e) (kept k (rw same less)))
          | inr (inl before) ↦ slot_outside s a bs v j p k h at less (inr (omega arith))
          | inr (inr behind) ↦ slot_outside s a bs v j p k h at less (inl (omega (arith, inside.0)))
        ]

-- a word that a slot may hold, put into it
pub put_in_sound : (s : State) (t i : ℕ) (o : Storage) (k w : ℕ) → Sound s → entry s t i ≡ Some (Object o) → k < o.slots → w < 4294967296 → NullOrLive s t o.level w → Sound (overwrite (slot_of o k) (word_bytes w) s)
unfolding word_bytes
put_in_sound s t i o k w h is less small kept = overwrite_sound s t i o (slot_of o k) (word_bytes w) h is (omega (arith, inside.0)) (omega (arith, inside.0)) each
  where
    inside : (4 * o.slots ≤ o.base) × (o.base + o.bytes ≤ length s.bytes)
    inside = is_inside_bank s h t i o is

    each : (j : ℕ) → j < o.slots → NullOrLive s t o.level (word_at (write_run s.bytes (slot_of o k) (word_bytes w)) (slot_of o j))
    each j less' =
        elim (cases_order j k) [
          | inl same ↦ rw (same, word_written s.bytes (slot_of o k) w (omega (arith, inside)) small) kept
          | inr (inl before) ↦ slot_outside s (slot_of o k) (word_bytes w) t i o j h is less' (inr (omega (arith, inside.0)))
          | inr (inr behind) ↦ slot_outside s (slot_of o k) (word_bytes w) t i o j h is less' (inl (omega (arith, inside.0)))
        ]

pub put_sound : (s : State) (l : Place) (w : ℕ) → Sound s → SlotIn s l → w < 4294967296 → NullOrLive s l.by.owner l.by.level w → Sound (put l w s)
unfolding put
put_sound s l w h n small kept =
    let o = n.object in
    let same : slot_at l.by l.at ≡ slot_of o (l.by.slot + l.at) = rw n.base_is in
    rw same (put_in_sound s l.by.owner l.by.object o (l.by.slot + l.at) w h n.is_there n.within small (rw n.level_is at kept))

-- data bytes replaced
pub write_sound : (s : State) (t i : ℕ) (o : Storage) (a : ℕ) (bs : List ℕ) → Sound s → entry s t i ≡ Some (Object o) → o.base ≤ a → a + length bs ≤ o.base + o.bytes → Sound (overwrite a bs s)
write_sound s t i o a bs h is from to =
    let inside = is_inside_bank s h t i o is in
    overwrite_sound s t i o a bs h is (omega arith) to (λ k less. slot_outside s a bs t i o k h is less (inl (omega (arith, inside.0))))

pub write_nothing_sound : (s : State) (a : ℕ) → Sound s → Sound (overwrite a [] s)
unfolding overwrite write_run
write_nothing_sound s a h = h
