-- Every effect of a call of a task moves a sound store.
use Rattle.std.proofs.Common.{◌≡◌, ◌≢◌, ◌⊎◌, ℕ, ◌+◌, ◌*◌, ◌<◌, ◌≤◌, true, List, [], ◌∷◌, length, replicate, Some, None, Option, slice_index, refl, sym, ◌∙◌, inl, inr, arith}
use Rattle.std.proofs.lemmas.Bool.{cases_lt, cases_order}
use Rattle.std.proofs.lemmas.List.{length-replicate}
use Rattle.bank.specs.Runs.{write_run}
use Rattle.bank.specs.Words.{word_at, word_bytes}
use Rattle.bank.proofs.RunLaws.{get_or-write_run_before, get_or-write_run_behind, length-write_run}
use Rattle.rules.specs.declared.entry.Entry.{Entry}
use Rattle.rules.specs.declared.entry.Entry.TheVariants.{Object, Control, Refined}
use Rattle.rules.specs.declared.entry.Storage.{Storage}
use Rattle.rules.specs.declared.descriptor.Descriptor.{Descriptor}
use Rattle.rules.specs.declared.shown.Place.{Place}
use Rattle.rules.specs.State.{State, block_start, byte_at, encode, entry, has, level, level_of, named, shown, shown_by, slot_at, stack, table, takes, write}
use Rattle.rules.specs.Effects.{Effect, add, add_named, apply, enter, open_context, first_slot, leave, new_object, next_index, overwrite, put, with_stack, with_table}
use Rattle.rules.specs.Operators.{first_of}
use Rattle.soundness.specs.Sound.{In, IsContext, Sound, slot_of}
use Rattle.soundness.specs.Sound.In.{here, below}
use Rattle.soundness.proofs.Additions.{added_sound, entry_new, entry_old, entry_was, new_slot, opened_sound, slot_stays}
use Rattle.soundness.proofs.Changes.{Addable, Adds, AddsPlain, SlotIn}
use Rattle.soundness.proofs.Finds.{Holds, Shows, given_holds, shows, shows_nothing, shows_part, source_holds}
use Rattle.soundness.proofs.Fits.{Enters, Closes, Fits, MayNameNew}
use Rattle.soundness.proofs.Leaves.{higher, leave_sound, left_other_stacks, left_others, left_stays, left_was, rest}
use Rattle.soundness.proofs.Overwrites.{is_inside_bank, separate}
use Rattle.bank.proofs.WordLaws.{word_elsewhere, word_written}
use Rattle.rules.proofs.Words.{IsSmall, decode_encode, encode_small, named_is, zero_names_nothing}
use Rattle.soundness.proofs.Operators.{comes_fits}
use Rattle.soundness.proofs.Origins.{Comes, Source, Word, enters, keeps, leaves, makes, nothing_named, puts, refines, word_of, writes}
use Rattle.isolation.specs.Reach.{Alters, only}
use Rattle.isolation.specs.Share.{ChangesOnlyItsShare, InShare}
use Rattle.isolation.proofs.Sides.{altered_reached}
use Rattle.isolation.proofs.Moves.{IsEntry, MayChange, Moved, New, Put, RightsOf, WordOf, altered, fresh, given, new_part, no_entry, of_new, old_word, put_word, unclaimed}
use Rattle.isolation.proofs.Given.{destination_alters, shown_alters, source_obtained}

-- a store that stays as it is
stayed : (s : State) (q : ℕ) → Moved s s q
stayed s q =
    record {
      sealed = refl;
      other_tables = λ t ne. refl;
      other_stacks = λ t ne. refl;
      size = refl;
      new = no_entry;
      stays = λ t i x is low. is;
      was = λ t i x is. inl is;
      contexts = λ c on. inl on;
      bytes = λ a. inl refl;
      words = λ t i o k is less. old_word is refl;
    }

-- a byte is as it was, or lies in the run that was written
of_run : (l : List ℕ) (a : ℕ) (bs : List ℕ) (b : ℕ) → (slice_index (write_run l a bs) b ≡ slice_index l b) ⊎ ((a ≤ b) × (b < a + length bs))
of_run l a bs b =
    elim (cases_lt b a) [
      | inl before ↦ inl (get_or-write_run_before l a bs b before)
      | inr from ↦
          elim (cases_lt b (a + length bs)) [
            | inl to ↦ inr (from, to)
            | inr behind ↦ inl (get_or-write_run_behind l a bs b behind)
          ]
    ]

-- a call that has made u of s, and then puts bytes where it may change them
module _ (s u : State) (q : ℕ) (m : Moved s u q) (a : ℕ) (bs : List ℕ) (may : (b : ℕ) → a ≤ b → b < a + length bs → MayChange s q b) where
  -- a slot that they leave alone
  left_alone : (t i : ℕ) (o : Storage) (k : ℕ) → entry u t i ≡ Some (Object o) → k < o.slots → (slot_of o k + 4 ≤ a) ⊎ (a + length bs ≤ slot_of o k) → WordOf s (overwrite a bs u) q m.new t i o k
  unfolding overwrite entry table named
  left_alone t i o k is less outside = from (m.words t i o k is less)
    where
      same : word_at (write_run u.bytes a bs) (slot_of o k) ≡ word_at u.bytes (slot_of o k)
      same = word_elsewhere u.bytes a bs (slot_of o k) outside

      from : WordOf s u q m.new t i o k → WordOf s (overwrite a bs u) q m.new t i o k
      from (old_word old is_old) = old_word old (same ∙ is_old)
      from (put_word f) = put_word (λ d. rw same (f d))

  overwritten : ((t i : ℕ) (o : Storage) (k : ℕ) → entry u t i ≡ Some (Object o) → k < o.slots → WordOf s (overwrite a bs u) q m.new t i o k) → Moved s (overwrite a bs u) q
  unfolding overwrite entry table stack
  overwritten words =
      record {
        sealed = m.sealed;
        other_tables = m.other_tables;
        other_stacks = m.other_stacks;
        size = length-write_run u.bytes a bs ∙ m.size;
        new = m.new;
        stays = m.stays;
        was = m.was;
        contexts = m.contexts;
        bytes = each;
        words = words;
      }
    where
      each : (b : ℕ) → (slice_index (write_run u.bytes a bs) b ≡ slice_index s.bytes b) ⊎ MayChange s q b
      each b =
          elim (of_run u.bytes a bs b) [
            | inl same ↦
                elim (m.bytes b) [
                  | inl old ↦ inl (same ∙ old)
                  | inr changed ↦ inr changed
                ]
            | inr at ↦ inr (may b at.0 at.1)
          ]

  -- bytes of one object of u, after which each of its slots holds what it may
  module _ (sound : Sound u) (t i : ℕ) (o : Storage) (is : entry u t i ≡ Some (Object o)) where
    inside : (4 * o.slots ≤ o.base) × (o.base + o.bytes ≤ length u.bytes)
    inside = is_inside_bank u sound t i o is

    in_object : o.base ≤ a + 4 * o.slots → a + length bs ≤ o.base + o.bytes → ((k : ℕ) → k < o.slots → WordOf s (overwrite a bs u) q m.new t i o k) → Moved s (overwrite a bs u) q
    in_object from to kept = overwritten each
      where
        each : (v j : ℕ) (p : Storage) (k : ℕ) → entry u v j ≡ Some (Object p) → k < p.slots → WordOf s (overwrite a bs u) q m.new v j p k
        each v j p k at less =
            let within = is_inside_bank u sound v j p at in
            elim (separate u sound t i v j o p is at) [
              | inl (e, e') ↦
                  let same : o ≡ p = cc in
                  rw (← e, ← e', ← same) (kept k (rw same less))
              | inr (inl before) ↦ left_alone v j p k at less (inr (omega arith))
              | inr (inr behind) ↦ left_alone v j p k at less (inl (omega (arith, within.0)))
            ]

-- data bytes of an object that the task alters
written : (s : State) (q t i : ℕ) (o : Storage) (a : ℕ) (bs : List ℕ) → Sound s → entry s t i ≡ Some (Object o) → Alters s (only q) t i → o.base ≤ a → a + length bs ≤ o.base + o.bytes → Moved s (overwrite a bs s) q
written s q t i o a bs g is alters from to =
    let m = stayed s q in
    let may : (b : ℕ) → a ≤ b → b < a + length bs → MayChange s q b = λ b low high. altered t i o alters is (omega arith, omega arith) in
    let within = inside s s q m a bs may g t i o is in
    in_object s s q m a bs may g t i o is (omega arith) to (λ k less. left_alone s s q m a bs may t i o k is less (inl (omega (arith, within.0))))

-- a word put into a slot of an object of u
slot_put : (s u : State) (q : ℕ) (m : Moved s u q) → Sound u → (t i : ℕ) (o : Storage) (k w : ℕ) → entry u t i ≡ Some (Object o) → k < o.slots → w < 4294967296 →
    ((b : ℕ) → slot_of o k ≤ b → b < slot_of o k + 4 → MayChange s q b) → ((d : Descriptor) → named u w ≡ Some d → Put s q m.new d) → Moved s (overwrite (slot_of o k) (word_bytes w) u) q
unfolding word_bytes overwrite entry table named
slot_put s u q m sound t i o k w is less small may allowed = in_object s u q m a bs may sound t i o is (omega (arith, within.0)) (omega (arith, within.0)) each
  where
    a : ℕ
    a = slot_of o k

    bs : List ℕ
    bs = word_bytes w

    within : (4 * o.slots ≤ o.base) × (o.base + o.bytes ≤ length u.bytes)
    within = inside s u q m a bs may sound t i o is

    each : (n : ℕ) → n < o.slots → WordOf s (overwrite a bs u) q m.new t i o n
    each n less' =
        elim (cases_order n k) [
          | inl same ↦ put_word (λ d names. allowed d (rw (same, word_written u.bytes a w (omega (arith, within)) small) at names))
          | inr (inl before) ↦ left_alone s u q m a bs may t i o n is less' (inr (omega (arith, within.0)))
          | inr (inr behind) ↦ left_alone s u q m a bs may t i o n is less' (inl (omega (arith, within.0)))
        ]

-- 0 names nothing
unnamed : (s : State) (d : Descriptor) → named s 0 ≢ Some d
unnamed s d n = let wrong : None ≡ Some d = sym (zero_names_nothing s) ∙ n in cc

-- an entry added to the task's table
added_moved : (s u : State) (q : ℕ) (e : Entry) → Sound s → Adds s u q e → Addable s q e → (new : New s q) → IsEntry s q new e → ((c : ℕ) → In c (stack u q) → (In c (stack s q)) ⊎ (c ≡ fresh s q)) → Moved s u q
added_moved s u q e g a can new is_new contexts =
    record {
      sealed = a.sealed;
      other_tables = a.others;
      other_stacks = a.other_stacks;
      size = rw a.bytes (length-write_run s.bytes from (replicate (takes e) 0));
      new = new;
      stays = λ t i x is low. entry_old s u q e a t i x is;
      was = λ t i x is.
          elim (entry_was s u q e a t i x is) [
            | inl now ↦ inr (now.0, (now.1.0, rw now.1.1 is_new))
            | inr old ↦ inl old
          ];
      contexts = contexts;
      bytes = λ b. rw a.bytes (each b);
      words = λ t i o k is less.
          elim (entry_was s u q e a t i (Object o) is) [
            | inl now ↦ put_word (λ d names. absurd (unnamed u d (rw (new_slot s u q e a g can o k now.1.1 less) at names)))
            | inr old ↦ old_word old (slot_stays s u q e a g can t i o k old less)
          ];
    }
  where
    from : ℕ
    from = block_start q + (table s q).claim

    each : (b : ℕ) → (slice_index (write_run s.bytes from (replicate (takes e) 0)) b ≡ slice_index s.bytes b) ⊎ MayChange s q b
    each b =
        elim (of_run s.bytes from (replicate (takes e) 0) b) [
          | inl same ↦ inl same
          | inr at ↦ inr (unclaimed at.0 (omega (arith, at.1, can.room, length-replicate {A = ℕ} (takes e) 0)))
        ]

-- what is on a stack is its first or below
first_or : {c b : ℕ} {cs : List ℕ} → In c (b ∷ cs) → (In c cs) ⊎ (c ≡ b)
first_or here = inr refl
first_or (below on) = inl on

-- a context that ends
left_moved : (s : State) (q c b : ℕ) (outer : List ℕ) → Sound s → q < 9 → stack s q ≡ c ∷ b ∷ outer → Moved s (leave q c s) q
unfolding leave with_stack with_table
left_moved s q c b outer g known two =
    record {
      sealed = refl;
      other_tables = left_others s q c;
      other_stacks = left_other_stacks s q c;
      size = refl;
      new = no_entry;
      stays = λ t i x is low. left_stays s q c low_table t i x is (below_cut t i x is low);
      was = λ t i x is. inl (left_was s q c low_table t i x is).0;
      contexts = λ d on. inl (rw two (below (rw (rest s q c b outer g known two) at on)));
      bytes = λ a. inl refl;
      words = λ t i o k is less. old_word (left_was s q c low_table t i (Object o) is).0 refl;
    }
  where
    low_table : q < length s.tables
    low_table = omega (arith, g.nine_tables)

    below_cut : (t i : ℕ) (x : Entry) → entry s t i ≡ Some x → (t ≡ q → level_of x ≡ 0) → t ≡ q → i < c
    below_cut t i x is low e =
        elim (cases_lt i c) [
          | inl less ↦ less
          | inr past ↦ let up = higher s q c b outer g known two i x past (rw e at is) in absurd (omega (arith, low e))
        ]

-- what is shown does not depend on bytes, so a word may as well be put when the context has ended
still_shown : (s : State) (l : Place) (w t i : ℕ) (x : Option Entry) → shown_by (put l w s) t i x ≡ shown_by s t i x
unfolding put overwrite entry table
still_shown s l w t i (Some (Object o)) = refl
still_shown s l w t i (Some (Control k)) = refl
still_shown s l w t i (Some (Refined r)) = refl
still_shown s l w t i None = refl

put_then_left : (s : State) (q c : ℕ) (l : Place) (w : ℕ) → leave q c (put l w s) ≡ put l w (leave q c s)
unfolding leave with_stack with_table put overwrite shown entry table stack
put_then_left s q c l w = rw (still_shown s l w q c (entry s q c)) refl

module _ (s : State) (g : Sound s) (q : ℕ) where
  -- a word put into a slot of an object that the task alters
  place_put : (u : State) (m : Moved s u q) → Sound u → (l : Place) (n : SlotIn s l) (w : ℕ) → entry u l.by.owner l.by.object ≡ Some (Object n.object) → Alters s (only q) l.by.owner l.by.object → w < 4294967296 →
      ((d : Descriptor) → named u w ≡ Some d → Put s q m.new d) → Moved s (put l w u) q
  unfolding put
  place_put u m sound l n w is alters small allowed =
      let o = n.object in
      let k : ℕ = l.by.slot + l.at in
      let same : slot_at l.by l.at ≡ slot_of o k = rw n.base_is in
      let within = is_inside_bank s g l.by.owner l.by.object o n.is_there in
      let less = n.within in
      rw same (slot_put s u q m sound l.by.owner l.by.object o k w is less small (λ b low high. altered l.by.owner l.by.object o alters n.is_there (omega (arith, within.0), omega (arith, within.0))) allowed)

  -- what a word names that the task may store
  word_given : (u : State) (n w : ℕ) (new : New s q) → Word s q n w → (d : Descriptor) → named u w ≡ Some d → Put s q new d
  word_given u n w new nothing_named d names = absurd (unnamed u d names)
  word_given u n w new (word_of e from low) d names =
      let same : d ≡ e = (named_is u (encode e) d names).0 ∙ decode_encode e (given_holds s g q e from).is_small in
      rw same (given from)

  -- an entry that is added and named in a slot
  named_moved : (e : Entry) (l : Place) (rights : ℕ) (new : New s q) → IsEntry s q new e → RightsOf s q new (record { table = q; index = next_index s q; rights = rights }) → Alters s (only q) l.by.owner l.by.object →
      AddsPlain s (add q e s) q e → MayNameNew s q e l rights → Moved s (apply (add_named q e l rights) s) q
  unfolding added_moved
  named_moved e l rights new is_new right alters p n = place_put u m sound l n.slot_in (encode d) there alters (encode_small d small) allowed
    where
      u : State
      u = add q e s

      d : Descriptor
      d = record { table = q; index = next_index s q; rights = rights }

      m : Moved s u q
      m = added_moved s u q e g p.adds p.addable new is_new (λ c on. inl (rw p.same_stack at on))

      sound : Sound u
      sound = added_sound s u q e g p

      small : IsSmall d
      small = record { table = omega (arith, p.addable.known); index = omega (arith, p.addable.few); rights = omega (arith, n.few_rights) }

      there : entry u l.by.owner l.by.object ≡ Some (Object n.slot_in.object)
      there = entry_old s u q e p.adds l.by.owner l.by.object (Object n.slot_in.object) n.slot_in.is_there

      allowed : (f : Descriptor) → named u (encode d) ≡ Some f → Put s q new f
      allowed f names =
          let same : f ≡ d = (named_is u (encode d) f names).0 ∙ decode_encode d small in
          rw same (of_new refl refl right)

  -- a context that is opened with a word in its slot 0
  opened_moved : (k w : ℕ) → Enters s q k → w < 4294967296 → Word s q (level s q + 1) w → Moved s (apply (open_context q k w) s) q
  unfolding new_object
  opened_moved k w p small word =
      let same : first_slot s q k ≡ slot_of o 0 = omega arith in
      rw same (slot_put s u q m (opened_sound s u q (Object o) g p) q (next_index s q) o 0 w (entry_new s u q (Object o) p.adds) (omega (arith, slots)) small
      (λ b low high. unclaimed (omega (arith, slots)) (omega (arith, slots, p.addable.room)))
      (word_given u (level s q + 1) w m.new word))
    where
      u : State
      u = enter q k s

      o : Storage
      o = record { base = block_start q + (table s q).claim + 4 * k; bytes = 0; slots = k; kind = 1; level = level s q + 1 }

      slots : 4 ≤ k
      slots = p.has_slots o refl

      m : Moved s u q
      m = added_moved s u q (Object o) g p.adds p.addable (New.new_object o) refl (λ c on. first_or (rw p.opened at on))

  -- a context that ends when a word was put into slot 0 of the one that it was called from
  closed_moved : (c b : ℕ) (outer : List ℕ) (w : ℕ) → Closes s q c (first_of (shown s q b)) w → stack s q ≡ c ∷ b ∷ outer → Word s q (shown s q b).level w → Moved s (leave q c (put (first_of (shown s q b)) w s)) q
  unfolding left_moved shown
  closed_moved c b outer w h two word = rw (put_then_left s q c l w) (place_put u m sound l h.slot_in w there alters h.may_put.is_word (word_given u (shown s q b).level w m.new word))
    where
      u : State
      u = leave q c s

      l : Place
      l = first_of (shown s q b)

      m : Moved s u q
      m = left_moved s q c b outer g h.known two

      sound : Sound u
      sound = leave_sound s q c b outer g h.known two

      under : IsContext s q (length outer + 1) b
      under = (rw two at (g.contexts q)).1.0

      is_b : (l.by.owner ≡ q) × (l.by.object ≡ b)
      is_b = rw under.is_there (refl, refl)

      alters : Alters s (only q) l.by.owner l.by.object
      alters = rw (is_b.0, is_b.1) (Alters.open_context q b refl (rw two (below here)))

      low : q < length s.tables
      low = omega (arith, h.known, g.nine_tables)

      still : IsContext u q (length outer + 1) b
      still = (rw (rest s q c b outer g h.known two) at (sound.contexts q)).0

      there : entry u l.by.owner l.by.object ≡ Some (Object h.slot_in.object)
      there = left_stays s q c low l.by.owner l.by.object (Object h.slot_in.object) h.slot_in.is_there (λ _. rw is_b.1 ((left_was s q c low q b (Object still.object) still.is_there).1 refl))

  -- the data bytes that a source shows
  wrote : (d : Descriptor) (offset : ℕ) (bs : List ℕ) → Source s q d → has write d.rights ≡ true → offset + length bs ≤ (shown s d.table d.index).bytes → Moved s (overwrite (byte_at (shown s d.table d.index) offset) bs s) q
  unfolding overwrite write_run
  wrote d offset [] from may within = stayed s q
  wrote d offset (b ∷ bs) from may within =
      let h : Holds s q d = source_holds s g q d from in
      part (shows s g q d.table d.index h.of h.is_there h.at_home)
    where
      part : Shows s q (shown s d.table d.index) → Moved s (overwrite (byte_at (shown s d.table d.index) offset) (b ∷ bs) s) q
      part (shows_nothing none none') = absurd (omega arith)
      part (shows_part e p) =
          let alters = shown_alters s g q d 0 (source_obtained s g q d from) may (inr (omega arith)) in
          written s q (shown s d.table d.index).owner (shown s d.table d.index).object p.object _ (b ∷ bs) g p.is_there alters (omega (arith, p.base_is)) (omega (arith, p.base_is, p.bytes_inside))

pub comes_moved : (s : State) (q : ℕ) (x : Effect) → Sound s → Comes s q x → Moved s (apply x s) q
unfolding new_object
comes_moved s q x g h = go x h (comes_fits s g q x h)
  where
    go : (x : Effect) → Comes s q x → Fits s x → Moved s (apply x s) q
    go x keeps fit = stayed s q
    go x (puts l w to word) fit =
        let n : SlotIn s l = fit.0 in
        place_put s g q s (stayed s q) g l n w n.is_there (destination_alters s g q l to) fit.1.is_word (word_given s g q s l.by.level w (stayed s q).new word)
    go x (writes d offset bs from may within) fit = wrote s g q d offset bs from may within
    go x (makes c n k kind l o to made low room) fit = named_moved s g q _ l 63 (New.new_object _) refl tt (destination_alters s g q l to) fit.0 fit.1
    go x (refines c byte bytes slot slots d l o from parts to bytes_in slots_in low room) fit =
        named_moved s g q _ l d.rights (new_part d byte bytes slot slots from parts slots_in) (level s q, refl) refl (destination_alters s g q l to) fit.0 fit.1
    go x (enters c k w o four word room) fit = opened_moved s g q k w fit.0 fit.1.is_word word
    go x (leaves c b w outer o two word) fit = closed_moved s g q c b outer w fit two word

-- what a task alters it reaches, so what it moves changes only its share
pub moved_in_share : (s u : State) (q : ℕ) → Moved s u q → ChangesOnlyItsShare q s u
moved_in_share s u q m =
    record {
      seal = m.sealed;
      other_tables = m.other_tables;
      other_contexts = m.other_stacks;
      size = m.size;
      other_bytes = λ a outside.
          elim (m.bytes a) [
            | inl same ↦ same
            | inr changed ↦ absurd (outside (in_share a changed))
          ];
    }
  where
    in_share : (a : ℕ) → MayChange s q a → InShare q s a
    in_share a (altered t i o alters is takes) = InShare.reached t i o (altered_reached s (only q) t i alters) is takes
    in_share a (unclaimed from to) = InShare.unclaimed from to
