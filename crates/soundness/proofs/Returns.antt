-- What a request does to the table and the open contexts of a task. Hence a return gives back what
-- the call took, and entries of level 0 and 1 last.
use Rattle.std.proofs.Common.{◌≡◌, ℕ, ◌+◌, ◌-◌, ◌*◌, ◌<◌, ◌≤◌, List, [], ◌∷◌, ◌++◌, length, take, Some, refl, sym, ◌∙◌, subst, ap, inl, inr, arith, length-append}
use Rattle.std.proofs.Math.Seq.{take-append_seam}
use Rattle.std.proofs.lemmas.Bool.{cases_eq, cases_lt}
use Rattle.std.proofs.lemmas.List.{take-append-le, take-take}
use Rattle.std.proofs.lemmas.Option.{slice_get_within}
use Rattle.std.specs.List.{slice_get}
use Rattle.rules.specs.declared.entry.Entry.{Entry}
use Rattle.rules.specs.declared.entry.Entry.TheVariants.{Object}
use Rattle.rules.specs.declared.entry.Storage.{Storage}
use Rattle.rules.specs.declared.shown.Place.{Place}
use Rattle.rules.specs.State.{State, Table, block_start, entry, level, level_of, shown, stack, table}
use Rattle.rules.specs.Effects.{Effect, keep, put_word, write_bytes, add_entry, add_named, start_task, open_context, close_context, seal, add, apply, enter, leave, new_object, overwrite, put, sealing}
use Rattle.runs.specs.Runs.{Request, run, step}
use Rattle.soundness.specs.Sound.{Sound}
use Rattle.soundness.specs.Theorem.{EntriesLast, ReturnsGiveBack, SealedEntriesLast, StaysAbove}
use Rattle.soundness.proofs.Changes.{AddsPlain}
use Rattle.rules.proofs.Entries.{slice_get_append, slice_get_end, slice_get_take}
use Rattle.soundness.proofs.Entries.{known_task}
use Rattle.soundness.proofs.Fits.{Closes, Enters, Fits}
use Rattle.soundness.proofs.Leaves.{higher, left_other_stacks, left_others, left_stack, left_table}
use Rattle.soundness.proofs.Steps.{by_effects, step_sound}

-- table x and open contexts cs of task q become y and ds: they stay, an entry is added, a context is
-- opened at the claim, or one is closed and the claim goes back to where it begins
data Becomes (q : ℕ) (x : Table) (cs : List ℕ) (y : Table) (ds : List ℕ) : Type 0 where
  stays : y ≡ x → ds ≡ cs → Becomes q x cs y ds
  grows : (e : Entry) → y.entries ≡ x.entries ++ e ∷ [] → ds ≡ cs → Becomes q x cs y ds
  opens : (o : Storage) → y.entries ≡ x.entries ++ Object o ∷ [] → o.base ≡ block_start q + x.claim + 4 * o.slots → o.level ≡ length cs + 1 → ds ≡ length x.entries ∷ cs → Becomes q x cs y ds
  closes : (c b : ℕ) (ks : List ℕ) → cs ≡ c ∷ b ∷ ks → ds ≡ b ∷ ks → y.entries ≡ take c x.entries → ((o : Storage) → slice_get x.entries c ≡ Some (Object o) → y.claim ≡ o.base - 4 * o.slots - block_start q) → Becomes q x cs y ds

abbrev HasBecome : ℕ → State → State → Type 0
HasBecome q s u = Becomes q (table s q) (stack s q) (table u q) (stack u q)

module _ (s : State) (g : Sound s) (q : ℕ) where
  added : (t : ℕ) (e : Entry) → AddsPlain s (add t e s) t e → HasBecome q s (add t e s)
  added t e p =
      elim (cases_eq q t) [
        | inl c ↦ grows e (rw c p.adds.entries) (rw c p.same_stack)
        | inr ne ↦ stays (p.adds.others q ne) (p.adds.other_stacks q ne)
      ]

  opened : (t k : ℕ) → Enters s t k → HasBecome q s (enter t k s)
  unfolding new_object level
  opened t k p =
      let o : Storage = record { base = block_start t + (table s t).claim + 4 * k; bytes = 0; slots = k; kind = 1; level = level s t + 1 } in
      elim (cases_eq q t) [
        | inl c ↦ opens o (rw c p.adds.entries) (rw c p.addable.ready.0) (rw c p.next_level) (rw c p.opened)
        | inr ne ↦ stays (p.adds.others q ne) (p.adds.other_stacks q ne)
      ]

  closed : (t c w : ℕ) (l : Place) → Closes s t c l w → HasBecome q s (leave t c (put l w s))
  unfolding put overwrite table stack shown entry
  closed t c w l h =
      let u : State = put l w s in
      let in_tables : t < length s.tables = omega (arith, g.nine_tables, h.known) in
      let in_stacks : t < length s.stacks = omega (arith, g.nine_stacks, h.known) in
      elim (cases_eq q t) [
        | inl e ↦
            closes c h.calling h.outer (rw e h.opened) (rw e (left_stack u t c in_stacks ∙ rw h.opened refl)) (rw (e, left_table u t c in_tables) refl)
            (λ o is. rw (e, left_table u t c in_tables) (rw (rw e at is) refl))
        | inr ne ↦ stays (left_others u t c q ne) (left_other_stacks u t c q ne)
      ]

  effect : (x : Effect) → Fits s x → HasBecome q s (apply x s)
  unfolding put overwrite sealing table stack
  effect keep h = stays refl refl
  effect (put_word l w) h = stays refl refl
  effect (write_bytes a bs) h = stays refl refl
  effect (add_entry t e) h = added t e h
  effect (add_named t e l rights) h = added t e h.0
  effect (start_task t k) h = opened t k h
  effect (open_context t k w) h = opened t k h.0
  effect (close_context t c l w) h = closed t c w l h
  effect seal h = stays refl refl

  step_becomes : (r : Request) → HasBecome q s (step r s)
  step_becomes = by_effects s g (HasBecome q s) (stays refl refl) effect

-- a call was made when task q had table x and contexts cs, and its context is still open: it stands
-- behind the entries of before, and begins at the claim of before
record IsAbove (q : ℕ) (x : Table) (cs : List ℕ) (y : Table) (ds : List ℕ) : Type 0 where
  newer : List ℕ
  opened : ds ≡ newer ++ length x.entries ∷ cs
  older : take (length x.entries) y.entries ≡ x.entries
  context : Storage
  is_there : slice_get y.entries (length x.entries) ≡ Some (Object context)
  is_level : context.level ≡ length cs + 1
  begins : context.base ≡ block_start q + x.claim + 4 * context.slots

same_table : (x y : Table) → y.entries ≡ x.entries → y.claim ≡ x.claim → y ≡ x
same_table x y e c = ap (λ (es : List Entry). record { entries = es; claim = y.claim }) e ∙ ap (λ (n : ℕ). record { entries = x.entries; claim = n }) c

module _ (q : ℕ) (x : Table) (cs : List ℕ) where
  -- the call
  called : (y : Table) (ds : List ℕ) → Becomes q x cs y ds → length cs < length ds → IsAbove q x cs y ds
  called y ds (stays same on) more = absurd (omega (arith, ap length on))
  called y ds (grows e entries on) more = absurd (omega (arith, ap length on))
  called y ds (opens o entries begins lvl on) more =
      record {
        newer = [];
        opened = on;
        older = rw entries (take-append_seam x.entries (Object o ∷ []));
        context = o;
        is_there = rw entries (slice_get_end x.entries (Object o));
        is_level = lvl;
        begins = begins;
      }
  called y ds (closes c b ks two on entries claim) more = absurd (omega (arith, ap length two, ap length on))

  module _ (u : State) (g : Sound u) (a : IsAbove q x cs (table u q) (stack u q)) where
    -- an entry more
    behind : (y : Table) (ds newer : List ℕ) (e : Entry) → y.entries ≡ (table u q).entries ++ e ∷ [] → ds ≡ newer ++ length x.entries ∷ cs → IsAbove q x cs y ds
    behind y ds newer e entries on =
        let within = slice_get_within (table u q).entries (length x.entries) (Object a.context) a.is_there in
        record {
          newer = newer;
          opened = on;
          older = rw entries (take-append-le (length x.entries) (table u q).entries (e ∷ []) (omega arith) ∙ a.older);
          context = a.context;
          is_there = rw entries (slice_get_append (table u q).entries e (length x.entries) within ∙ a.is_there);
          is_level = a.is_level;
          begins = a.begins;
        }

    there : entry u q (length x.entries) ≡ Some (Object a.context)
    unfolding entry
    there = a.is_there

    -- a later request
    kept : (y : Table) (ds : List ℕ) → Becomes q (table u q) (stack u q) y ds → length cs < length ds → IsAbove q x cs y ds
    kept y ds (stays same on) more = rw (same, on) a
    kept y ds (grows e entries on) more = behind y ds a.newer e entries (on ∙ a.opened)
    kept y ds (opens o entries begins lvl on) more = behind y ds (length (table u q).entries ∷ a.newer) (Object o) entries (on ∙ ap (λ (ks : List ℕ). length (table u q).entries ∷ ks) a.opened)
    kept y ds (closes c b ks two on entries claim) more = go a.newer a.opened
      where
        go : (newer : List ℕ) → stack u q ≡ newer ++ length x.entries ∷ cs → IsAbove q x cs y ds
        go [] e = absurd (omega (arith, ap length e, ap length two, ap length on))
        go (d ∷ newer) e =
            let same : b ∷ ks ≡ newer ++ length x.entries ∷ cs = cc in
            let over : length x.entries < c =
            elim (cases_lt (length x.entries) c) [
              | inl less ↦ less
              | inr past ↦
                  let high = higher u q c b ks g (known_task u g q c (b ∷ ks) two) two (length x.entries) (Object a.context) past there in
                  absurd (omega (arith, a.is_level, ap length same, length-append newer (length x.entries ∷ cs)))
            ] in
            record {
              newer = newer;
              opened = on ∙ same;
              older = rw entries (take-take (length x.entries) c (table u q).entries (omega arith) ∙ a.older);
              context = a.context;
              is_there = rw entries (slice_get_take c (table u q).entries (length x.entries) over ∙ a.is_there);
              is_level = a.is_level;
              begins = a.begins;
            }

    -- the return
    given_back : (y : Table) (ds : List ℕ) → Becomes q (table u q) (stack u q) y ds → length cs < length (stack u q) → length ds ≡ length cs → (y ≡ x) × (ds ≡ cs)
    given_back y ds (stays same on) more back = absurd (omega (arith, ap length on))
    given_back y ds (grows e entries on) more back = absurd (omega (arith, ap length on))
    given_back y ds (opens o entries begins lvl on) more back = absurd (omega (arith, ap length on))
    given_back y ds (closes c b ks two on entries claim) more back = go a.newer a.opened
      where
        go : (newer : List ℕ) → stack u q ≡ newer ++ length x.entries ∷ cs → (y ≡ x) × (ds ≡ cs)
        go [] e =
            let last : length x.entries ≡ c = cc in
            let rest : cs ≡ b ∷ ks = cc in
            let same : y.entries ≡ x.entries = entries ∙ rw (← last) a.older in
            let begins : y.claim ≡ x.claim = omega (arith, claim a.context (rw (← last) a.is_there), a.begins) in
            (same_table x y same begins, on ∙ sym rest)
        go (d ∷ newer) e = absurd (omega (arith, ap length e, ap length two, ap length on, length-append newer (length x.entries ∷ cs)))

above_now : (q n : ℕ) (rs : List Request) (s : State) → StaysAbove q n rs s → n < level s q
above_now q n [] s h = h
above_now q n (r ∷ rs) s h = h.0

pub gives_back : ReturnsGiveBack
unfolding level run
gives_back q s u g h = subst (λ (v : State). (table v q ≡ table s q) × (stack v q ≡ stack s q)) (sym h.is_it) (go h.between (step h.calling s) (step_sound s g h.calling) first h.stays_above (rw h.is_it at h.is_back))
  where
    first : IsAbove q (table s q) (stack s q) (table (step h.calling s) q) (stack (step h.calling s) q)
    first = called q (table s q) (stack s q) _ _ (step_becomes s g q h.calling) (above_now q _ h.between _ h.stays_above)

    go : (rs : List Request) (v : State) → Sound v → IsAbove q (table s q) (stack s q) (table v q) (stack v q) → StaysAbove q (level s q) rs v → level (step h.returning (run rs v)) q ≡ level s q →
        (table (step h.returning (run rs v)) q ≡ table s q) × (stack (step h.returning (run rs v)) q ≡ stack s q)
    go [] v w a above back = given_back q _ _ v w a _ _ (step_becomes v w q h.returning) above back
    go (r ∷ rs) v w a (now, above) back = go rs (step r v) (step_sound v w r) (kept q _ _ v w a _ _ (step_becomes v w q r) (above_now q _ rs _ above)) above back

-- an entry of level 0 or 1 lasts
module _ (s : State) (g : Sound s) (t i : ℕ) (e : Entry) where
  entry_lasts : (r : Request) → entry s t i ≡ Some e → level_of e ≤ 1 → entry (step r s) t i ≡ Some e
  unfolding entry
  entry_lasts r is low = go (step_becomes s g t r)
    where
      within : i < length (table s t).entries
      within = slice_get_within (table s t).entries i e is

      go : HasBecome t s (step r s) → entry (step r s) t i ≡ Some e
      go (stays same on) = rw same is
      go (grows x entries on) = rw entries (slice_get_append (table s t).entries x i within ∙ is)
      go (opens o entries begins lvl on) = rw entries (slice_get_append (table s t).entries (Object o) i within ∙ is)
      go (closes c b ks two on entries claim) =
          elim (cases_lt i c) [
            | inl less ↦ rw entries (slice_get_take c (table s t).entries i less ∙ is)
            | inr past ↦
                let high = higher s t c b ks g (known_task s g t c (b ∷ ks) two) two i e past is in
                absurd (omega arith)
          ]

pub entries_last : EntriesLast
unfolding run
entries_last s [] g t i e is low = is
entries_last s (r ∷ rs) g t i e is low = entries_last (step r s) rs (step_sound s g r) t i e (entry_lasts s g t i e r is low) low

pub sealed_entries_last : SealedEntriesLast
sealed_entries_last s rs g low t i e is = entries_last s rs g t i e is (omega (arith, g.no_higher t i e is, low t))
