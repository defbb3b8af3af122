-- An entry added to a table keeps a store sound.
use Rattle.std.proofs.Common.{◌≡◌, ◌≢◌, ℕ, ◌+◌, ◌*◌, ◌<◌, ◌≤◌, false, List, [], ◌∷◌, ◌++◌, length, replicate, Some, sym, refl, ap, ◌∙◌, ◌⊎◌, inl, inr, arith, length-append}
use Rattle.std.proofs.lemmas.Bool.{cases_eq, cases_lt}
use Rattle.std.proofs.lemmas.List.{get_or-set_other, get_or-set_same, length-set, length-replicate}
use Rattle.bank.proofs.RunLaws.{length-write_run}
use Rattle.bank.specs.Words.{word_at}
use Rattle.rules.specs.declared.entry.Entry.{Entry}
use Rattle.rules.specs.declared.entry.Entry.TheVariants.{Object, Control, Refined}
use Rattle.rules.specs.declared.entry.Storage.{Storage}
use Rattle.rules.specs.declared.entry.Refinement.{Refinement}
use Rattle.rules.specs.State.{State, table, stack, level, entry, no_table, block_start, kind_of, level_of, takes}
use Rattle.rules.specs.Effects.{add, enter, grown, new_object, next_index, overwrite, with_stack, with_table}
use Rattle.soundness.specs.Sound.{AreContexts, In, Inside, IsContext, NullOrLive, Sound, slot_of}
use Rattle.soundness.specs.Sound.In.{here, below}
use Rattle.soundness.specs.Sound.NullOrLive.{null}
use Rattle.soundness.proofs.Changes.{Addable, Adds, AddsContext, AddsPlain}
use Rattle.bank.proofs.WordLaws.{word_cleared, word_elsewhere}
use Rattle.rules.proofs.Entries.{entry_within, slice_get_added, slice_get_append, slice_get_end}
use Rattle.soundness.proofs.Entries.{apart_of}
use Rattle.soundness.proofs.Lasts.{Last, contexts_last, inside_lasts, word_lasts}

-- what the stack of table t is to be when the entry e is added
record Stacked (s u : State) (t : ℕ) (e : Entry) : Type 0 where
  grows : level s t ≤ level u t
  few_levels : level u t ≤ 8
  no_higher : level_of e ≤ level u t
  nobody : t ≡ 0 → level u t ≡ 0
  contexts : AreContexts u t (stack u t)
  stays : (i : ℕ) → In i (stack s t) → In i (stack u t)
  entered : kind_of e ≡ 1 → In (length (table s t).entries) (stack u t)
  loading : s.sealed ≡ false → level u t ≤ 1
  loaded : s.sealed ≡ false → kind_of e ≢ 1 → level_of e ≡ 0

-- the entries of the new state are the old ones and the new one
module _ (s u : State) (t : ℕ) (e : Entry) (a : Adds s u t e) where
  pub entry_new : entry u t (length (table s t).entries) ≡ Some e
  unfolding entry
  entry_new = rw a.entries (slice_get_end (table s t).entries e)

  pub entry_old : (v i : ℕ) (x : Entry) → entry s v i ≡ Some x → entry u v i ≡ Some x
  unfolding entry
  entry_old v i x h =
      elim (cases_eq v t) [
        | inl c ↦
            let at_t : entry s t i ≡ Some x = rw (← c) h in
            rw (c, a.entries) (slice_get_append (table s t).entries e i (entry_within s t i x at_t) ∙ at_t)
        | inr c ↦ rw (a.others v c) h
      ]

  pub entry_was : (v i : ℕ) (x : Entry) → entry u v i ≡ Some x → ((v ≡ t) × ((i ≡ length (table s t).entries) × (x ≡ e))) ⊎ (entry s v i ≡ Some x)
  unfolding entry
  entry_was v i x h =
      elim (cases_eq v t) [
        | inl c ↦
            elim (slice_get_added (table s t).entries e x i (rw (← a.entries, ← c) h)) [
              | inl new ↦ inl (c, new)
              | inr old ↦ inr (rw c old.1)
            ]
        | inr c ↦ inr (rw (← a.others v c) h)
      ]

  -- of two entries the first is an old one
  first_old : (v i j : ℕ) (x y : Entry) → i < j → entry u v i ≡ Some x → entry u v j ≡ Some y → entry s v i ≡ Some x
  first_old v i j x y less h k =
      elim (entry_was v i x h) [
        | inl new ↦
            let within : j < length ((table s t).entries ++ e ∷ []) = rw (new.0, a.entries) at (entry_within u v j y k) in
            absurd (omega (arith, new.1.0, length-append (table s t).entries (e ∷ [])))
        | inr old ↦ old
      ]

  -- so what is said of the entries that were there lasts
  lasts : (v n : ℕ) → Last s u v n
  lasts v n d i x is _ _ = entry_old d i x is

  pub kept_added : (v n w : ℕ) → NullOrLive s v n w → NullOrLive u v n w
  kept_added v n w = word_lasts s u v n w (lasts v n)

  inside_added : (v : ℕ) (r : Refinement) → Inside s v r → Inside u v r
  inside_added v r = inside_lasts s u v r (lasts v r.level)

  contexts_added : (q : ℕ) → AreContexts s q (stack s q) → AreContexts u q (stack s q)
  unfolding level
  contexts_added q = contexts_last s u q (stack s q) (lasts q (level s q)) (λ i c x y less h k. first_old q i c x y less h (entry_old q c y k))

  other_level : (v : ℕ) → v ≢ t → level u v ≡ level s v
  unfolding level
  other_level v ne = ap length (a.other_stacks v ne)

  module _ (sound : Sound s) (can : Addable s t e) where
    -- a new object takes the bytes that were cleared
    new_base : (o : Storage) → Object o ≡ e → (o.base ≡ block_start t + (table s t).claim + 4 * o.slots) × (takes e ≡ 4 * o.slots + o.bytes)
    new_base o same = ((rw (← same) at can.ready).0, rw (← same) refl)

    -- an old object has its slots elsewhere
    pub slot_stays : (v i : ℕ) (o : Storage) (k : ℕ) → entry s v i ≡ Some (Object o) → k < o.slots → word_at u.bytes (slot_of o k) ≡ word_at s.bytes (slot_of o k)
    slot_stays v i o k h less = rw a.bytes (word_elsewhere s.bytes (block_start t + (table s t).claim) (replicate (takes e) 0) (slot_of o k) (rw (length-replicate {A = ℕ} (takes e) 0) away))
      where
        away : (slot_of o k + 4 ≤ block_start t + (table s t).claim) ⊎ (block_start t + (table s t).claim + takes e ≤ slot_of o k)
        away =
            let x = sound.in_claim v i o h in
            let y = sound.small_claim v in
            let z = can.room in
            elim (cases_lt t v) [
              | inl lt ↦ inr (omega arith)
              | inr ge ↦
                  elim (cases_eq v t) [
                    | inl c ↦
                        let there : entry s t i ≡ Some (Object o) = rw (← c) h in
                        let w = sound.in_claim t i o there in
                        inl (omega arith)
                    | inr ne ↦ inl (omega arith)
                  ]
            ]

    -- and the slots of a new one hold 0
    pub new_slot : (o : Storage) (k : ℕ) → Object o ≡ e → k < o.slots → word_at u.bytes (slot_of o k) ≡ 0
    new_slot o k same less =
        let x = new_base o same in
        rw a.bytes (word_cleared s.bytes (block_start t + (table s t).claim) (takes e) (slot_of o k) (omega (arith, x.0)) (omega (arith, x.0, x.1)) (omega (arith, can.known, can.room, can.large)))

  module _ (sound : Sound s) (can : Addable s t e) (st : Stacked s u t e) where
    claim_grows : (v : ℕ) → (table s v).claim ≤ (table u v).claim
    claim_grows v =
        elim (cases_eq v t) [
          | inl c ↦ rw (c, a.claim) (omega arith)
          | inr c ↦ rw (a.others v c) (omega arith)
        ]

    level_rises : (v : ℕ) → level s v ≤ level u v
    level_rises v =
        elim (cases_eq v t) [
          | inl c ↦ rw c st.grows
          | inr c ↦ rw (other_level v c) (omega arith)
        ]

    few_entries : (v : ℕ) → length (table u v).entries ≤ 64
    few_entries v =
        elim (cases_eq v t) [
          | inl c ↦ rw (c, a.entries) (omega (arith, can.few, length-append (table s t).entries (e ∷ [])))
          | inr c ↦ rw (a.others v c) (sound.few_entries v)
        ]

    small_claim : (v : ℕ) → (table u v).claim ≤ 2048
    small_claim v =
        elim (cases_eq v t) [
          | inl c ↦ rw (c, a.claim) can.room
          | inr c ↦ rw (a.others v c) (sound.small_claim v)
        ]

    in_claim : (v i : ℕ) (o : Storage) → entry u v i ≡ Some (Object o) → (block_start v + 4 * o.slots ≤ o.base) × (o.base + o.bytes ≤ block_start v + (table u v).claim)
    in_claim v i o h =
        elim (entry_was v i (Object o) h) [
          | inl new ↦
              let x = new_base sound can o new.1.1 in
              rw (new.0, a.claim) (omega (arith, x.0, x.1), omega (arith, x.0, x.1))
          | inr old ↦
              let x = sound.in_claim v i o old in
              (x.0, omega (arith, x.1, claim_grows v))
        ]

    in_order : (v i j : ℕ) (o p : Storage) → i < j → entry u v i ≡ Some (Object o) → entry u v j ≡ Some (Object p) → o.base + o.bytes + 4 * p.slots ≤ p.base
    in_order v i j o p less h k =
        let first = first_old v i j (Object o) (Object p) less h k in
        elim (entry_was v j (Object p) k) [
          | inl new ↦
              let x = new_base sound can p new.1.1 in
              let there : entry s t i ≡ Some (Object o) = rw (← new.0) first in
              let y = sound.in_claim t i o there in
              omega (arith, x.0, y.1)
          | inr old ↦ sound.in_order v i j o p less first old
        ]

    slots : (v i : ℕ) (o : Storage) → entry u v i ≡ Some (Object o) → (k : ℕ) → k < o.slots → NullOrLive u v o.level (word_at u.bytes (slot_of o k))
    slots v i o h k less =
        elim (entry_was v i (Object o) h) [
          | inl new ↦ null (new_slot sound can o k new.1.1 less)
          | inr old ↦ rw (slot_stays sound can v i o k old less) (kept_added v o.level (word_at s.bytes (slot_of o k)) (sound.slots v i o old k less))
        ]

    stacked_sound : Sound u
    stacked_sound =
        record {
          nine_tables = a.tables ∙ sound.nine_tables;
          nine_stacks = a.stacks ∙ sound.nine_stacks;
          few_entries = few_entries;
          small_claim = small_claim;
          large_bank = λ v i x h. rw (a.bytes, length-write_run) can.large;
          in_claim = in_claim;
          in_order = in_order;
          apart = apart_of u in_claim small_claim in_order;
          inside = λ v i r h.
              elim (entry_was v i (Refined r) h) [
                | inl new ↦ rw new.0 (inside_added t r (rw (← new.1.1) at can.ready))
                | inr old ↦ inside_added v r (sound.inside v i r old)
              ];
          kinds = λ v i o h.
              elim (entry_was v i (Object o) h) [
                | inl new ↦ (rw (← new.1.1) at can.ready).1
                | inr old ↦ sound.kinds v i o old
              ];
          controls = λ v i c h.
              elim (entry_was v i (Control c) h) [
                | inl new ↦ rw (← new.1.1) at can.ready
                | inr old ↦ sound.controls v i c old
              ];
          rising = λ v i j x y less h k high.
              let first = first_old v i j x y less h k in
              elim (entry_was v j y k) [
                | inl new ↦ rw new.1.1 (can.rises i x (rw (← new.0) first) high)
                | inr old ↦ sound.rising v i j x y less first old high
              ];
          few_levels = λ v.
              elim (cases_eq v t) [
                | inl c ↦ rw c st.few_levels
                | inr ne ↦ rw (other_level v ne) (sound.few_levels v)
              ];
          no_higher = λ v i x h.
              elim (entry_was v i x h) [
                | inl new ↦ rw (new.0, new.1.1) st.no_higher
                | inr old ↦ omega (arith, sound.no_higher v i x old, level_rises v)
              ];
          nobody =
              elim (cases_eq 0 t) [
                | inl c ↦ ap (level u) c ∙ st.nobody (sym c)
                | inr ne ↦ other_level 0 ne ∙ sound.nobody
              ];
          contexts = λ q.
              elim (cases_eq q t) [
                | inl c ↦ rw c st.contexts
                | inr ne ↦ rw (a.other_stacks q ne) (contexts_added q (sound.contexts q))
              ];
          no_others = λ v i x h context.
              elim (entry_was v i x h) [
                | inl new ↦ rw (new.0, new.1.0) (st.entered (rw (← new.1.1) context))
                | inr old ↦
                    elim (cases_eq v t) [
                      | inl c ↦ rw c (st.stays i (sound.no_others t i x (rw (← c) old) context))
                      | inr ne ↦ rw (a.other_stacks v ne) (sound.no_others v i x old context)
                    ]
              ];
          loading = λ begun v.
              elim (cases_eq v t) [
                | inl c ↦ rw c (st.loading (sym a.sealed ∙ begun))
                | inr ne ↦ rw (other_level v ne) (sound.loading (sym a.sealed ∙ begun) v)
              ];
          loaded = λ begun v i x h plain.
              elim (entry_was v i x h) [
                | inl new ↦ rw new.1.1 (st.loaded (sym a.sealed ∙ begun) (rw (← new.1.1) plain))
                | inr old ↦ sound.loaded (sym a.sealed ∙ begun) v i x old plain
              ];
          slots = slots;
        }

pub added_sound : (s u : State) (t : ℕ) (e : Entry) → Sound s → AddsPlain s u t e → Sound u
unfolding level
added_sound s u t e sound p = stacked_sound s u t e p.adds sound p.addable stacked
  where
    stacked : Stacked s u t e
    stacked =
        record {
          grows = rw p.same_stack (omega arith);
          few_levels = rw p.same_stack (sound.few_levels t);
          no_higher = rw p.same_stack p.no_higher;
          nobody = λ z. rw (p.same_stack, z) sound.nobody;
          contexts = rw p.same_stack (contexts_added s u t e p.adds t (sound.contexts t));
          stays = λ i m. rw p.same_stack m;
          entered = λ context. absurd (p.no_context context);
          loading = λ begun. rw p.same_stack (sound.loading begun t);
          loaded = λ begun plain. p.loaded begun;
        }

-- the new context stands behind entries of lower levels
pub opened_sound : (s u : State) (t : ℕ) (e : Entry) → Sound s → AddsContext s u t e → Sound u
unfolding level
opened_sound s u t e sound p = stacked_sound s u t e p.adds sound p.addable stacked
  where
    is_context : (x : Entry) → x ≡ e → IsContext u t (level s t + 1) (length (table s t).entries)
    is_context (Object o) same =
        record {
          object = o;
          is_there = rw same (entry_new s u t e p.adds);
          is_context = rw (← same) at p.is_context;
          is_level = rw (← same) at p.next_level;
          has_slots = p.has_slots o (sym same);
          few_slots = p.few_slots o (sym same);
          no_bytes = p.no_bytes o (sym same);
          is_first = λ two i x less h.
              elim (entry_was s u t e p.adds t i x h) [
                | inl new ↦ absurd (omega (arith, new.1.0))
                | inr old ↦ omega (arith, sound.no_higher t i x old)
              ];
        }
    is_context (Control c) same = let wrong : kind_of (Control c) ≡ 1 = ap kind_of same ∙ p.is_context in absurd (omega arith)
    is_context (Refined r) same = let wrong : kind_of (Refined r) ≡ 1 = ap kind_of same ∙ p.is_context in absurd (omega arith)

    stacked : Stacked s u t e
    stacked =
        record {
          grows = rw p.opened (omega arith);
          few_levels = rw p.opened (omega (arith, p.few_levels));
          no_higher = rw p.opened (omega (arith, p.next_level));
          nobody = λ z. absurd (p.task z);
          contexts = rw p.opened (is_context e refl, contexts_added s u t e p.adds t (sound.contexts t));
          stays = λ i m. rw p.opened (below m);
          entered = λ context. rw p.opened here;
          loading = λ begun. rw p.opened (omega (arith, p.loading begun));
          loaded = λ begun plain. absurd (plain p.is_context);
        }

-- the effects add an entry, and enter opens a context as well
pub add_adds : (s : State) (t : ℕ) (e : Entry) → Sound s → t < 9 → Adds s (add t e s) t e × (stack (add t e s) t ≡ stack s t)
unfolding add with_table overwrite table stack grown
add_adds s t e sound known = (adds, refl)
  where
    u : State
    u = add t e s

    new_table : table u t ≡ grown (table s t) e
    new_table = get_or-set_same s.tables t (grown (table s t) e) no_table (omega (arith, sound.nine_tables))

    adds : Adds s u t e
    adds =
        record {
          tables = length-set s.tables t (grown (table s t) e);
          stacks = refl;
          sealed = refl;
          entries = rw new_table refl;
          claim = rw new_table refl;
          others = λ v ne. get_or-set_other s.tables t v (grown (table s t) e) no_table ne;
          other_stacks = λ v ne. refl;
          bytes = refl;
        }

pub enter_adds : (s : State) (q k : ℕ) → Sound s → q < 9 → Adds s (enter q k s) q (new_object s q 0 k 1 (level s q + 1)) × (stack (enter q k s) q ≡ next_index s q ∷ stack s q)
unfolding enter with_stack table stack add with_table overwrite
enter_adds s q k sound known = (adds, get_or-set_same s.stacks q cs [] (omega (arith, sound.nine_stacks)))
  where
    e : Entry
    e = new_object s q 0 k 1 (level s q + 1)

    cs : List ℕ
    cs = next_index s q ∷ stack s q

    added : Adds s (add q e s) q e
    added = (add_adds s q e sound known).0

    adds : Adds s (enter q k s) q e
    adds =
        record {
          tables = added.tables;
          stacks = length-set s.stacks q cs;
          sealed = added.sealed;
          entries = added.entries;
          claim = added.claim;
          others = added.others;
          other_stacks = λ v ne. get_or-set_other s.stacks q v cs [] ne;
          bytes = added.bytes;
        }
