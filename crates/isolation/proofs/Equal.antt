-- A call of task P plans the same in two states that are equal in all that P reaches.
use Rattle.std.proofs.Common.{if◌then◌else◌, ◌≡◌, ℕ, zero, suc, ◌+◌, ◌%◌, ◌==◌, ◌<◌, ◌≤◌, Bool, true, false, bit_and, bit_or, nat_lt, List, [], ◌∷◌, length, Some, None, Ok, Err, Option, Result, slice_index, refl, ap, add-zero, add-suc, suc-add, arith}
use Rattle.std.proofs.lemmas.Bool.{le-leb, leb-true}
use Rattle.std.specs.Option.{IfSome}
use Rattle.std.specs.Result.{IfOk}
use Rattle.bank.specs.Runs.{read_run}
use Rattle.rules.specs.declared.call.Operator.{Operator}
use Rattle.rules.specs.declared.call.Operator.TheVariants.{Copy, Null, Restrict, Amplify, Create, Typed, Refine, Read, Write, See, Look, Call, Return}
use Rattle.rules.specs.declared.entry.Entry.{Entry}
use Rattle.rules.specs.declared.entry.TypeControl.{TypeControl}
use Rattle.rules.specs.declared.fault.Fault.{Fault}
use Rattle.rules.specs.declared.descriptor.Descriptor.{Descriptor}
use Rattle.rules.specs.declared.shown.Place.{Place}
use Rattle.rules.specs.declared.shown.Shown.{Shown}
use Rattle.rules.specs.State.{State, byte_at, entry, has, held, level, named, read, shown, stack, table, type1, type2, write}
use Rattle.rules.specs.Tests.{◌≫=◌, fits, check, control, destination, environment, kind_by, operator, resolve, some, source, source_or_null, source_with}
use Rattle.rules.specs.Effects.{Effect, Planned, keep, apply, done, new_object}
use Rattle.rules.specs.Operators.{amplify_plan, call_plan, calling, copy_plan, create_plan, first_of, level_named, look_plan, makes, null_plan, read_plan, refine_plan, restrict_plan, return_plan, see_plan, stores, typed_plan, with_rights, write_plan}
use Rattle.rules.specs.Calls.{Outcome, operator_outcome}
use Rattle.soundness.specs.Sound.{In, IsContext, Sound, below, here}
use Rattle.soundness.proofs.Binds.{HasPlan}
use Rattle.soundness.proofs.Finds.{is_current}
use Rattle.soundness.proofs.Origins.{Calls, Comes, ControlBy, Environment, Selected, Source, by_slot, control_finds, destination_finds, operator_finds, resolve_finds, source_finds, source_or_null_finds, source_with_finds, the_context}
use Rattle.soundness.proofs.Plans.{operator_plan}
use Rattle.isolation.specs.Reach.{in_context, named_entry, only}
use Rattle.isolation.proofs.Given.{source_obtained}
use Rattle.isolation.proofs.Matches.{Matches, same_level}
use Rattle.isolation.proofs.Alikes.{same_context, same_named, same_shown}
use Rattle.isolation.proofs.Sides.{Seat, has_parts_if, byte_taken, context_seat, obtained_seat}

-- two chains of tests are equal if each test finds the same and the rest is the same of what it
-- finds
same_after : {X Y : Type 0} (F : X → Type 0) (r r' : Result X Fault) (f f' : X → Result Y Fault) → IfOk r F → r ≡ r' → ((x : X) → F x → f x ≡ f' x) → (r ≫= f) ≡ (r' ≫= f')
same_after F r r' f f' known e rest = rw (← e) (go r known)
  where
    go : (r : Result _ Fault) → IfOk r F → (r ≫= f) ≡ (r ≫= f')
    go (Ok x) h = rest x h
    go (Err e) h = refl

same_check : {Y : Type 0} (b b' : Bool) (e : Fault) (f f' : Unit {0} → Result Y Fault) → b ≡ b' → (b ≡ true → f tt ≡ f' tt) → (check b e ≫= f) ≡ (check b' e ≫= f')
same_check b b' e f f' same rest = rw (← same) (go b refl)
  where
    go : (c : Bool) → b ≡ c → (check c e ≫= f) ≡ (check c e ≫= f')
    go true is = rest is
    go false is = refl

same_some : {X Y : Type 0} (o o' : Option X) (e : Fault) (f f' : X → Result Y Fault) → o ≡ o' → ((x : X) → o ≡ Some x → f x ≡ f' x) → (some o e ≫= f) ≡ (some o' e ≫= f')
same_some o o' e f f' same rest = rw (← same) (go o refl)
  where
    go : (x : Option _) → o ≡ x → (some x e ≫= f) ≡ (some x e ≫= f')
    go (Some x) is = rest x is
    go None is = refl

same_choice : {X : Type 0} (b : Bool) (x x' y y' : X) → x ≡ x' → y ≡ y' → (if b then x else y) ≡ (if b then x' else y')
same_choice true x x' y y' e e' = e
same_choice false x x' y y' e e' = e'

-- bytes that are the same make the same run
same_run : (l l' : List ℕ) (a n : ℕ) → ((k : ℕ) → k < n → slice_index l (a + k) ≡ slice_index l' (a + k)) → read_run l a n ≡ read_run l' a n
unfolding read_run
same_run l l' a zero h = refl
same_run l l' a (suc n) h =
    let first : slice_index l a ≡ slice_index l' a = simp add-zero at (h 0 (omega arith)) in
    rw (first, same_run l l' (suc a) n (λ k less. simp suc-add (simp add-suc at (h (suc k) (omega arith))))) refl

-- equal plans answer the same and have the same effect
same_made : (s u : State) {K : State → Effect → Type 0} (f : State → Outcome × State) (h : HasPlan K f) (X : State → State → Type 0) → X s u → ((x : Effect) → K s x → K u x → X (apply x s) (apply x u)) → h.plan s ≡ h.plan u → ((f s).0 ≡ (f u).0) × X (f s).1 (f u).1
same_made s u {K} f h X kept moved e = rw (h.is_made s, h.is_made u) (go (h.plan s) (h.plan u) e (h.known s) (h.known u))
  where
    go : (r r' : Result (Planned h.Found) Fault) → r ≡ r' → IfOk r (λ p. K s p.effect) → IfOk r' (λ p. K u p.effect) → (h.told (done s r).0 ≡ h.told (done u r').0) × X (done s r).1 (done u r').1
    go (Ok p) r' e from from' = rw (← e) (refl, moved p.effect from (rw (← e) at from'))
    go (Err x) r' e from from' = rw (← e) (refl, kept)

module _ (s : State) (g : Sound s) (q : ℕ) where
  -- the current context is open
  calls_in : (c : ℕ) → Calls s q c → In c (stack s q)
  calls_in c o = rw o.on_top here

  -- and has the slots that selectors can name
  first_slot : (c k : ℕ) → Calls s q c → k < 4 → k < (shown s q c).slots
  unfolding shown
  first_slot c k o low =
      let h = is_current s g q c o in
      rw h.is_there (omega (arith, h.has_slots))

  -- what a selector shows, if it has a slot
  environment_seat : (right : ℕ) (v : Shown) (k : ℕ) → Environment s q right v → k < v.slots → Seat s (only q) v
  environment_seat right _ k (the_context c o) less = context_seat s g (only q) q c refl (calls_in c o)
  environment_seat right _ k (by_slot c n d o low is may) less =
      obtained_seat s g (only q) d (in_context q c n d refl (calls_in c o) (first_slot c n o low, is)) (has_parts_if s d.table d.index (omega arith))

module _ (P : ℕ) (s u : State) (m : Matches (only P) s u) (same : table s P ≡ table u P) (g : Sound s) (j : Sound u) (sealed : s.sealed ≡ true) (sealed' : u.sealed ≡ true) (large : 18432 ≤ length s.bytes) (large' : 18432 ≤ length u.bytes) where
  source_entry : (d : Descriptor) → Source s P d → entry s d.table d.index ≡ entry u d.table d.index
  source_entry d h = m.same_entries d.table d.index (named_entry d (source_obtained s g P d h))

  source_shown : (d : Descriptor) → Source s P d → shown s d.table d.index ≡ shown u d.table d.index
  source_shown d h = same_shown (only P) s u m g j d (source_obtained s g P d h)

  operator_same : operator s P ≡ operator u P
  unfolding operator
  operator_same = rw (m.same_stacks P refl, le-leb 18432 (length s.bytes) large, le-leb 18432 (length u.bytes) large', sealed, sealed') refl

  after_operator : {Y : Type 0} (f f' : ℕ → Result Y Fault) → ((c : ℕ) → Calls s P c → f c ≡ f' c) → (operator s P ≫= f) ≡ (operator u P ≫= f')
  after_operator f f' = same_after _ _ _ f f' (operator_finds s P) operator_same

  environment_same : (right c p sel : ℕ) → Calls s P c → environment right s P c p sel ≡ environment right u P c p sel
  unfolding environment held
  environment_same right c p sel o =
      let i : In c (stack s P) = calls_in s g P c o in
      let n : ℕ = sel % 4 in
      let shows : shown s P c ≡ shown u P c = same_context (only P) s u m g j P c refl i in
      let less : n < (shown s P c).slots = first_slot s g P c n o (omega arith) in
      let names : named s (held s (record { by = shown s P c; at = n })) ≡ named u (held u (record { by = shown u P c; at = n })) =
      rw (← shows) (same_named (only P) s u m g j (shown s P c) n (context_seat s g (only P) P c refl i) less) in
      same_choice (n == 0) _ _ _ _ (ap Ok shows)
      (same_some _ _ _ _ _ names (λ d is. rw (same_shown (only P) s u m g j d (in_context P c n d refl i (less, is))) refl))

  resolve_same : (right c p sel : ℕ) → Calls s P c → resolve right s P c p sel ≡ resolve right u P c p sel
  unfolding resolve
  resolve_same right c p sel o = rw (environment_same right c p sel o) refl

  place_named : (right : ℕ) (l : Place) → Selected s P right l → named s (held s l) ≡ named u (held u l)
  place_named right l h = same_named (only P) s u m g j l.by l.at (environment_seat s g P right l.by l.at h.environment h.within) h.within

  module _ (c p sel : ℕ) (o : Calls s P c) where
    source_or_null_same : source_or_null s P c p sel ≡ source_or_null u P c p sel
    unfolding source_or_null
    source_or_null_same = same_after _ _ _ _ _ (resolve_finds s P c p sel o read) (resolve_same read c p sel o) (λ l h. ap Ok (place_named read l h))

    source_same : source s P c p sel ≡ source u P c p sel
    unfolding source
    source_same = rw source_or_null_same refl

    source_with_same : (right : ℕ) → source_with right s P c p sel ≡ source_with right u P c p sel
    unfolding source_with
    source_with_same right = rw source_same refl

    control_same : (right : ℕ) → control right s P c p sel ≡ control right u P c p sel
    unfolding control
    control_same right = same_after _ _ _ _ _ (source_with_finds s P c p sel o right) (source_with_same right) (λ d h. rw (source_entry d h.0) refl)

    destination_same : destination s P c p sel ≡ destination u P c p sel
    unfolding destination
    destination_same = same_after _ _ _ _ _ (resolve_finds s P c p sel o write) (resolve_same write c p sel o) (λ l h. rw (place_named write l h) refl)

    after_source : {Y : Type 0} (f f' : Descriptor → Result Y Fault) → ((d : Descriptor) → Source s P d → f d ≡ f' d) → (source s P c p sel ≫= f) ≡ (source u P c p sel ≫= f')
    after_source f f' = same_after _ _ _ f f' (source_finds s P c p sel o) source_same

    after_source_or_null : {Y : Type 0} (f f' : Option Descriptor → Result Y Fault) → ((x : Option Descriptor) → IfSome x (Source s P) → f x ≡ f' x) → (source_or_null s P c p sel ≫= f) ≡ (source_or_null u P c p sel ≫= f')
    after_source_or_null f f' = same_after _ _ _ f f' (source_or_null_finds s P c p sel o) source_or_null_same

    after_source_with : {Y : Type 0} (right : ℕ) (f f' : Descriptor → Result Y Fault) → ((d : Descriptor) → Source s P d × (has right d.rights ≡ true) → f d ≡ f' d) → (source_with right s P c p sel ≫= f) ≡ (source_with right u P c p sel ≫= f')
    after_source_with right f f' = same_after _ _ _ f f' (source_with_finds s P c p sel o right) (source_with_same right)

    after_control : {Y : Type 0} (right : ℕ) (f f' : TypeControl → Result Y Fault) → ((k : TypeControl) → ControlBy s P right k → f k ≡ f' k) → (control right s P c p sel ≫= f) ≡ (control right u P c p sel ≫= f')
    after_control right f f' = same_after _ _ _ f f' (control_finds s P c p sel o right) (control_same right)

    after_destination : {Y : Type 0} (f f' : Place → Result Y Fault) → ((l : Place) → Selected s P write l → f l ≡ f' l) → (destination s P c p sel ≫= f) ≡ (destination u P c p sel ≫= f')
    after_destination f f' = same_after _ _ _ f f' (destination_finds s P c p sel o) destination_same

  stores_same : (d : Descriptor) (l : Place) → entry s d.table d.index ≡ entry u d.table d.index → stores s P d l ≡ stores u P d l
  unfolding stores
  stores_same d l e = rw e refl

  makes_same : (l : Place) (n k kind : ℕ) → makes s P l n k kind ≡ makes u P l n k kind
  unfolding makes new_object
  makes_same l n k kind = rw (same, same_level P s u m) refl

  -- the bytes that a source shows
  read_run_same : (offset n : ℕ) (d : Descriptor) → Source s P d → offset + n ≤ (shown s d.table d.index).bytes → read_run s.bytes (byte_at (shown s d.table d.index) offset) n ≡ read_run u.bytes (byte_at (shown s d.table d.index) offset) n
  read_run_same offset n d h inside =
      same_run s.bytes u.bytes (byte_at v offset) n (λ k less.
      let seat : Seat s (only P) v = obtained_seat s g (only P) d (source_obtained s g P d h) (has_parts_if s d.table d.index (omega arith)) in
      let takes = byte_taken s g (only P) v seat (offset + k) (omega arith) in
      m.same_bytes v.owner v.object seat.object (byte_at v offset + k) seat.reached seat.is_there (omega (arith, takes.0), omega (arith, takes.1)))
    where
      v : Shown
      v = shown s d.table d.index

  named_level : (x : Option Descriptor) → IfSome x (Source s P) → level_named s x ≡ level_named u x
  named_level (Some d) h = rw (source_entry d h) refl
  named_level None h = refl

  -- the context that the current one was called from, and its first slot
  calling_open : (b : ℕ) → calling (stack s P) ≡ Some b → In b (stack s P) × (0 < (shown s P b).slots)
  unfolding shown
  calling_open b from = go (stack s P) refl from
    where
      go : (cs : List ℕ) → stack s P ≡ cs → calling cs ≡ Some b → In b (stack s P) × (0 < (shown s P b).slots)
      go [] e f = cc
      go (c ∷ []) e f = cc
      go (c ∷ (d ∷ cs)) e f =
          let open_one : d ≡ b = cc in
          let two : stack s P ≡ c ∷ b ∷ cs = rw open_one at e in
          let z : IsContext s P (length cs + 1) b = (rw two at (g.contexts P)).1.0 in
          (rw two (below here), rw z.is_there (omega (arith, z.has_slots)))

  calling_shown : (b : ℕ) → calling (stack s P) ≡ Some b → shown s P b ≡ shown u P b
  calling_shown b from = same_context (only P) s u m g j P b refl (calling_open b from).0

  calling_named : (b : ℕ) → calling (stack s P) ≡ Some b → named s (held s (first_of (shown s P b))) ≡ named u (held u (first_of (shown u P b)))
  calling_named b from =
      let x = calling_open b from in
      rw (← calling_shown b from) (same_named (only P) s u m g j (shown s P b) 0 (context_seat s g (only P) P b refl x.0) x.1)

  -- the operators, one by one
  plan_same : (c : Operator) (bs : List ℕ) → (operator_plan P c bs).plan s ≡ (operator_plan P c bs).plan u
  unfolding amplify_plan call_plan copy_plan create_plan look_plan null_plan read_plan refine_plan restrict_plan return_plan see_plan typed_plan write_plan
  plan_same (Copy src dst) bs =
      after_operator _ _ (λ c o.
      after_source c 1 src o _ _ (λ d h.
      after_destination c 2 dst o _ _ (λ l _.
      stores_same d l (source_entry d h))))
  plan_same (Null dst) bs =
      after_operator _ _ (λ c o.
      rw (destination_same c 1 dst o) refl)
  plan_same (Restrict src dst mask) bs =
      after_operator _ _ (λ c o.
      after_source c 1 src o _ _ (λ d h.
      after_destination c 2 dst o _ _ (λ l _.
      rw (stores_same (with_rights (bit_and d.rights mask) d) l (source_entry d h)) refl)))
  plan_same (Amplify ctl src dst) bs =
      after_operator _ _ (λ c o.
      after_control c 1 ctl o type2 _ _ (λ k _.
      after_source c 2 src o _ _ (λ d h.
      same_check (kind_by (entry s d.table d.index) == k.kind) _ _ _ _ (ap (λ (x : Option Entry). kind_by x == k.kind) (source_entry d h)) (λ _.
      after_destination c 3 dst o _ _ (λ l _.
      stores_same (with_rights (bit_or d.rights k.rights) d) l (source_entry d h))))))
  plan_same (Create dst n k) bs =
      after_operator _ _ (λ c o.
      after_destination c 1 dst o _ _ (λ l _.
      makes_same l n k 0))
  plan_same (Typed ctl dst n k) bs =
      after_operator _ _ (λ c o.
      after_control c 1 ctl o type1 _ _ (λ t _.
      after_destination c 2 dst o _ _ (λ l _.
      makes_same l n k t.kind)))
  plan_same (Refine src dst byte bytes slot slots) bs =
      after_operator _ _ (λ c o.
      after_source c 1 src o _ _ (λ d h.
      rw (source_entry d h, source_shown d h, destination_same c 2 dst o, same_level P s u m, same) refl))
  plan_same (Read src offset) bs =
      after_operator _ _ (λ c o.
      after_source_with c 1 src o read _ _ (λ d h.
      rw (← source_shown d h.0)
      (same_check (fits offset (length bs) (shown s d.table d.index).bytes) _ _ _ _ refl (λ inside.
      ap (λ (r : List ℕ). Ok (record { answer = r; effect = keep })) (read_run_same offset (length bs) d h.0 (leb-true _ _ inside))))))
  plan_same (Write src offset) bs =
      after_operator _ _ (λ c o.
      after_source_with c 1 src o write _ _ (λ d h.
      rw (source_shown d h.0) refl))
  plan_same (See src) bs =
      after_operator _ _ (λ c o.
      rw (source_or_null_same c 1 src o) refl)
  plan_same (Look src) bs =
      after_operator _ _ (λ c o.
      after_source c 1 src o _ _ (λ d h.
      rw (source_entry d h, source_shown d h) refl))
  plan_same (Call arg k) bs =
      after_operator _ _ (λ c o.
      same_check (nat_lt (level s P) 8) _ _ _ _ (ap (λ (n : ℕ). nat_lt n 8) (same_level P s u m)) (λ _.
      after_source_or_null c 1 arg o _ _ (λ x h.
      rw (named_level x h, same_level P s u m, same) refl)))
  plan_same (Return res) bs =
      after_operator _ _ (λ c o.
      same_some (calling (stack s P)) _ _ _ _ (ap calling (m.same_stacks P refl)) (λ b from.
      after_source_or_null c 1 res o _ _ (λ x h.
      rw (calling_named b from, named_level x h, calling_shown b from) refl)))

  module _ (c : Operator) (bs : List ℕ) where
    pub same_outcome : (operator_outcome P c bs s).0 ≡ (operator_outcome P c bs u).0
    same_outcome = (same_made s u _ (operator_plan P c bs) (λ _ _. Unit {0}) tt (λ _ _ _. tt) (plan_same c bs)).0

    -- what holds of the two states, and of them after any effect, holds of them after the call
    pub step_both : (X : State → State → Type 0) → X s u → ((x : Effect) → Comes s P x → Comes u P x → X (apply x s) (apply x u)) → X (operator_outcome P c bs s).1 (operator_outcome P c bs u).1
    step_both X kept moved = (same_made s u _ (operator_plan P c bs) X kept moved (plan_same c bs)).1
