-- A sound store stays sound when a context ends: the entries of the ended level end, and what stays
-- names only what stays.
use Rattle.std.proofs.Common.{◌≡◌, ◌≢◌, ℕ, ◌+◌, ◌-◌, ◌*◌, ◌<◌, ◌≤◌, List, [], ◌∷◌, length, take, Some, sym, refl, ◌∙◌, inl, inr, arith}
use Rattle.std.proofs.lemmas.Bool.{cases_eq, cases_lt}
use Rattle.std.proofs.lemmas.List.{get_or-set_other, get_or-set_same, length-set, length-take}
use Rattle.bank.specs.Words.{word_at}
use Rattle.rules.specs.declared.entry.Entry.{Entry}
use Rattle.rules.specs.declared.entry.Entry.TheVariants.{Object, Control, Refined}
use Rattle.rules.specs.declared.entry.Storage.{Storage}
use Rattle.rules.specs.State.{State, Table, block_start, entry, kind_of, level, level_of, no_table, shown, stack, table}
use Rattle.rules.specs.Effects.{leave, popped, with_stack, with_table}
use Rattle.soundness.specs.Sound.{AreContexts, In, IsContext, Sound, slot_of}
use Rattle.rules.proofs.Entries.{slice_get_cut, slice_get_take}
use Rattle.soundness.proofs.Lasts.{Last, contexts_last, inside_lasts, word_lasts}

beyond : (c i : ℕ) (cs : List ℕ) → i < c → In i (c ∷ cs) → In i cs
beyond c i cs l In.here = absurd (omega arith)
beyond c i cs l (In.below h) = h

module _ (s : State) (q c : ℕ) where
  abbrev u : State
  u = leave q c s

  -- the table and the stack of the task
  abbrev cut : Table
  cut = record { entries = take c (table s q).entries; claim = (shown s q c).base - 4 * (shown s q c).slots - block_start q }

  pub left_table : q < length s.tables → table u q ≡ cut
  unfolding leave table with_stack with_table
  left_table low = get_or-set_same s.tables q cut no_table low

  pub left_others : (t : ℕ) → t ≢ q → table u t ≡ table s t
  unfolding leave table with_stack with_table
  left_others t ne = get_or-set_other s.tables q t cut no_table ne

  pub left_stack : q < length s.stacks → stack u q ≡ popped (stack s q)
  unfolding leave stack with_stack with_table
  left_stack low = get_or-set_same s.stacks q (popped (stack s q)) [] low

  pub left_other_stacks : (t : ℕ) → t ≢ q → stack u t ≡ stack s t
  unfolding leave stack with_stack with_table
  left_other_stacks t ne = get_or-set_other s.stacks q t (popped (stack s q)) [] ne

  -- what stays is what was there before the cut
  module _ (low : q < length s.tables) where
    pub left_stays : (t i : ℕ) (x : Entry) → entry s t i ≡ Some x → (t ≡ q → i < c) → entry u t i ≡ Some x
    unfolding entry
    left_stays t i x h f =
        elim (cases_eq t q) [
          | inl e ↦ rw (e, left_table low) (slice_get_take c (table s q).entries i (f e) ∙ (rw e at h))
          | inr ne ↦ rw (left_others t ne) h
        ]

    pub left_was : (t i : ℕ) (x : Entry) → entry u t i ≡ Some x → (entry s t i ≡ Some x) × (t ≡ q → i < c)
    unfolding entry
    left_was t i x h =
        elim (cases_eq t q) [
          | inl e ↦
              let kept = slice_get_cut c (table s q).entries i x (rw (e, left_table low) at h) in
              (rw e kept.1, λ _. kept.0)
          | inr ne ↦ (rw (left_others t ne) at h, λ e. absurd (ne e))
        ]

  module _ (b : ℕ) (cs : List ℕ) (g : Sound s) (known : q < 9) (two : stack s q ≡ c ∷ b ∷ cs) where
    -- the level that ends
    abbrev n : ℕ
    n = length cs + 2

    low : q < length s.tables
    low = omega (arith, g.nine_tables)

    was : (t i : ℕ) (x : Entry) → entry u t i ≡ Some x → entry s t i ≡ Some x
    was t i x h = (left_was low t i x h).0

    before : (t i : ℕ) (x : Entry) → entry u t i ≡ Some x → t ≡ q → i < c
    before t i x h = (left_was low t i x h).1

    top : IsContext s q (length (b ∷ cs) + 1) c
    top = (rw two at (g.contexts q)).0

    -- the entries of the table from the cut on are those that are not below that level
    under : (t i : ℕ) (x : Entry) → entry u t i ≡ Some x → t ≡ q → level_of x < n
    under t i x h e = let z = top.is_first (omega arith) i x (before t i x h e) (rw e at (was t i x h)) in omega arith

    pub higher : (i : ℕ) (x : Entry) → c ≤ i → entry s q i ≡ Some x → n ≤ level_of x
    higher i x l h =
        elim (cases_lt c i) [
          | inl f ↦ let z = g.rising q c i (Object top.object) x f top.is_there h (omega (arith, top.is_level)) in omega (arith, top.is_level)
          | inr f ↦
              let same : i ≡ c = omega arith in
              let there = top.is_there in
              let object : x ≡ Object top.object = cc in
              rw object (omega (arith, top.is_level))
        ]

    -- what an entry that stays in table t, of level m, may name stays too
    stays : (t m : ℕ) → (t ≡ q → m < n) → Last s u t m
    stays t m lower a i x h le home =
        left_stays low a i x h (λ e.
        elim (cases_lt i c) [
          | inl l ↦ l
          | inr l ↦
              let z = higher i x l (rw e at h) in
              let w = lower (sym (home (omega arith)) ∙ e) in
              absurd (omega arith)
        ])

    contexts_stay : (t : ℕ) (ks : List ℕ) → (t ≡ q → length ks < n) → AreContexts s t ks → AreContexts u t ks
    contexts_stay t ks lower = contexts_last s u t ks (stays t (length ks) lower) (λ i k x y less h _. was t i x h)

    pub rest : stack u q ≡ b ∷ cs
    rest = left_stack (omega (arith, g.nine_stacks)) ∙ rw two refl

    heights : (t : ℕ) → level u t ≤ level s t
    unfolding level
    heights t =
        elim (cases_eq t q) [
          | inl e ↦ rw (e, rest, two) (omega arith)
          | inr ne ↦ rw (left_other_stacks t ne) (omega arith)
        ]

    highest : (t i : ℕ) (x : Entry) → entry u t i ≡ Some x → level_of x ≤ level u t
    unfolding level
    highest t i x h =
        elim (cases_eq t q) [
          | inl e ↦ let z = under t i x h e in rw (e, rest) (omega arith)
          | inr ne ↦ rw (left_other_stacks t ne) (g.no_higher t i x (was t i x h))
        ]

    now_open : (t : ℕ) → AreContexts u t (stack u t)
    now_open t =
        elim (cases_eq t q) [
          | inl e ↦ rw (e, rest) (contexts_stay q (b ∷ cs) (λ _. omega arith) (rw two at (g.contexts q)).1)
          | inr ne ↦ rw (left_other_stacks t ne) (contexts_stay t (stack s t) (λ e. absurd (ne e)) (g.contexts t))
        ]

    only : (t i : ℕ) (x : Entry) → entry u t i ≡ Some x → kind_of x ≡ 1 → In i (stack u t)
    only t i x h k =
        let on : In i (stack s t) = g.no_others t i x (was t i x h) k in
        elim (cases_eq t q) [
          | inl e ↦ rw (e, rest) (beyond c i (b ∷ cs) (before t i x h e) (rw (e, two) at on))
          | inr ne ↦ rw (left_other_stacks t ne) on
        ]

    -- the claim goes back to where the context begins
    claims : (table u q).claim ≡ top.object.base - 4 * top.object.slots - block_start q
    unfolding shown
    claims = rw (left_table low, top.is_there) refl

    fits : (t i : ℕ) (o : Storage) → entry u t i ≡ Some (Object o) → (block_start t + 4 * o.slots ≤ o.base) × (o.base + o.bytes ≤ block_start t + (table u t).claim)
    fits t i o h =
        let old = g.in_claim t i o (was t i (Object o) h) in
        elim (cases_eq t q) [
          | inl e ↦
              let order = g.in_order q i c o top.object (before t i (Object o) h e) (rw e at (was t i (Object o) h)) top.is_there in
              let own = g.in_claim q c top.object top.is_there in
              (old.0, rw (e, claims) (omega arith))
          | inr ne ↦ rw (left_others t ne) old
        ]

    few : (t : ℕ) → (length (table u t).entries ≤ 64) × ((table u t).claim ≤ 2048)
    few t =
        elim (cases_eq t q) [
          | inl e ↦
              let own = g.in_claim q c top.object top.is_there in
              let size = length-take c (table s q).entries in
              rw e (rw (left_table low) (omega (arith, g.few_entries q)), rw claims (omega (arith, g.small_claim q)))
          | inr ne ↦ rw (left_others t ne) (g.few_entries t, g.small_claim t)
        ]

    pub leave_sound : Sound (leave q c s)
    unfolding leave with_stack with_table
    leave_sound =
        record {
          nine_tables = length-set s.tables q cut ∙ g.nine_tables;
          nine_stacks = length-set s.stacks q (popped (stack s q)) ∙ g.nine_stacks;
          few_entries = λ t. (few t).0;
          small_claim = λ t. (few t).1;
          large_bank = λ t i e h. g.large_bank t i e (was t i e h);
          in_claim = fits;
          in_order = λ t i j o p l h k. g.in_order t i j o p l (was t i (Object o) h) (was t j (Object p) k);
          apart = λ t i v j o p a h k. g.apart t i v j o p a (was t i (Object o) h) (was v j (Object p) k);
          inside = λ t i r h. inside_lasts s u t r (stays t r.level (under t i (Refined r) h)) (g.inside t i r (was t i (Refined r) h));
          kinds = λ t i o h. g.kinds t i o (was t i (Object o) h);
          controls = λ t i k h. g.controls t i k (was t i (Control k) h);
          rising = λ t i j e f l h k. g.rising t i j e f l (was t i e h) (was t j f k);
          few_levels = λ t. omega (arith, heights t, g.few_levels t);
          no_higher = highest;
          nobody = omega (arith, heights 0, g.nobody);
          contexts = now_open;
          no_others = only;
          loading = λ f t. omega (arith, heights t, g.loading f t);
          loaded = λ f t i e h. g.loaded f t i e (was t i e h);
          slots = λ t i o h k l. word_lasts s u t o.level (word_at s.bytes (slot_of o k)) (stays t o.level (under t i (Object o) h)) (g.slots t i o (was t i (Object o) h) k l);
        }
