-- The same effect of a call of task P keeps two states equal in all that P reaches.
use Rattle.std.proofs.Common.{◌≡◌, ◌⊎◌, ℕ, ◌+◌, ◌-◌, ◌*◌, ◌<◌, ◌≤◌, List, ◌∷◌, length, replicate, take, Some, slice_index, refl, sym, ap, ◌∙◌, inl, inr, add-zero, arith}
use Rattle.std.proofs.lemmas.Bool.{cases_eq, cases_lt}
use Rattle.std.proofs.lemmas.List.{length-replicate}
use Rattle.rules.proofs.Entries.{entry_within}
use Rattle.store.proofs.Orders.{room_is}
use Rattle.bank.specs.Runs.{write_run}
use Rattle.bank.specs.Words.{word_bytes}
use Rattle.bank.proofs.RunLaws.{get_or-write_run_before, get_or-write_run_behind, get_or-write_run_inside, length-write_run}
use Rattle.rules.specs.declared.entry.Entry.{Entry}
use Rattle.rules.specs.declared.entry.Entry.TheVariants.{Object}
use Rattle.rules.specs.declared.entry.Storage.{Storage}
use Rattle.rules.specs.declared.shown.Place.{Place}
use Rattle.rules.specs.declared.shown.Shown.{Shown}
use Rattle.rules.specs.State.{State, Table, block_start, encode, entry, level, slot_at, shown, stack, table, takes}
use Rattle.rules.specs.Effects.{Effect, add_named, add, apply, enter, first_slot, leave, new_object, next_index, overwrite, popped, put, with_stack, with_table}
use Rattle.rules.specs.Operators.{first_of, refined}
use Rattle.soundness.specs.Sound.{In, Sound, Takes, here}
use Rattle.soundness.proofs.Additions.{add_adds, enter_adds, entry_was}
use Rattle.soundness.proofs.Changes.{Adds}
use Rattle.soundness.proofs.Entries.{known_task}
use Rattle.soundness.proofs.Leaves.{left_stack, left_table, left_was}
use Rattle.soundness.proofs.Origins.{Calls, Comes}
use Rattle.soundness.proofs.Overwrites.{is_inside_bank}
use Rattle.isolation.specs.Reach.{Reaches, only}
use Rattle.isolation.proofs.Alikes.{same_context}
use Rattle.isolation.proofs.Effects.{comes_moved}
use Rattle.isolation.proofs.Matches.{Matches, same_level}
use Rattle.isolation.proofs.Sides.{context_there}

-- an address has the same byte in two lists
abbrev SameAt : List ℕ → List ℕ → ℕ → Type 0
SameAt l m b = (b < length l) × ((b < length m) × (slice_index l b ≡ slice_index m b))

-- the same run written to both makes it so inside the run
inside_written : (l m : List ℕ) (a : ℕ) (bs : List ℕ) (b : ℕ) → a ≤ b → b < a + length bs → b < length l → b < length m → SameAt (write_run l a bs) (write_run m a bs) b
inside_written l m a bs b from to low low' =
    let k : ℕ = b - a in
    let there : b ≡ a + k = omega arith in
    (rw length-write_run low, (rw length-write_run low', rw there (get_or-write_run_inside l a bs k (omega arith) (omega arith) ∙ sym (get_or-write_run_inside m a bs k (omega arith) (omega arith)))))

-- and elsewhere leaves it so
same_written : (l m : List ℕ) (a a' : ℕ) (bs bs' : List ℕ) (b : ℕ) → a ≡ a' → bs ≡ bs' → SameAt l m b → SameAt (write_run l a bs) (write_run m a' bs') b
same_written l m a a' bs bs' b e e' h =
    rw (← e, ← e')
    elim (cases_lt b a) [
      | inl before ↦ elsewhere (get_or-write_run_before l a bs b before) (get_or-write_run_before m a bs b before)
      | inr from ↦
          elim (cases_lt b (a + length bs)) [
            | inl to ↦ inside_written l m a bs b from to h.0 h.1.0
            | inr behind ↦ elsewhere (get_or-write_run_behind l a bs b behind) (get_or-write_run_behind m a bs b behind)
          ]
    ]
  where
    elsewhere : slice_index (write_run l a bs) b ≡ slice_index l b → slice_index (write_run m a bs) b ≡ slice_index m b → SameAt (write_run l a bs) (write_run m a bs) b
    elsewhere e e' = (rw length-write_run h.0, (rw length-write_run h.1.0, e ∙ h.1.1 ∙ sym e'))

same_table : (x y : Table) → x.entries ≡ y.entries → x.claim ≡ y.claim → x ≡ y
same_table x y e f = ap (λ (es : List Entry). record { entries = es; claim = x.claim }) e ∙ ap (λ (n : ℕ). record { entries = y.entries; claim = n }) f

module _ (P : ℕ) (s u : State) (m : Matches (only P) s u) (same : table s P ≡ table u P) (g : Sound s) (j : Sound u) where
  known : (c : ℕ) → Calls s P c → P < 9
  known c o = known_task s g P c o.outer o.on_top

  -- the context that P opens next is the same in both, and so are the next index and its slot 0
  same_new : (k : ℕ) → new_object s P 0 k 1 (level s P + 1) ≡ new_object u P 0 k 1 (level u P + 1)
  unfolding new_object
  same_new k = rw (same, same_level P s u m) refl

  same_index : next_index s P ≡ next_index u P
  same_index = rw same refl

  same_first : (k : ℕ) → first_slot s P k ≡ first_slot u P k
  same_first k = rw same refl

  pushed : next_index s P ∷ stack s P ≡ next_index u P ∷ stack u P
  pushed = rw (same, m.same_stacks P refl) refl

  -- table P with an entry added, and cut
  tables_added : (v w : State) (e f : Entry) → Adds s v P e → Adds u w P f → e ≡ f → table v P ≡ table w P
  tables_added v w e f a b is = same_table (table v P) (table w P) (a.entries ∙ rw (same, is) (sym b.entries)) (a.claim ∙ rw (same, is) (sym b.claim))

  add_tables : (e : Entry) (c : ℕ) → Calls s P c → table (add P e s) P ≡ table (add P e u) P
  add_tables e c o = tables_added (add P e s) (add P e u) e e (add_adds s P e g (known c o)).0 (add_adds u P e j (known c o)).0 refl

  abbrev cut : ℕ → Table → Shown → Table
  cut c x v = record { entries = take c x.entries; claim = v.base - 4 * v.slots - block_start P }

  left_is : (v : State) (h : Sound v) (l : Place) (w c : ℕ) → P < 9 → table (leave P c (put l w v)) P ≡ cut c (table v P) (shown v P c)
  unfolding overwrite put entry shown table
  left_is v h l w c low = left_table (put l w v) P c (omega (arith, h.nine_tables))

  leave_tables : (l : Place) (w c : ℕ) → Calls s P c → table (leave P c (put l w s)) P ≡ table (leave P c (put l w u)) P
  leave_tables l w c o =
      let shows : shown s P c ≡ shown u P c = same_context (only P) s u m g j P c refl (rw o.on_top here) in
      left_is s g l w c (known c o) ∙ rw (same, shows) (sym (left_is u j l w c (known c o)))

  pub both_tables : (x : Effect) → Comes s P x → table (apply x s) P ≡ table (apply x u) P
  unfolding overwrite put table
  both_tables x Comes.keeps = same
  both_tables x (Comes.puts l w to from) = same
  both_tables x (Comes.writes d offset bs from may within) = same
  both_tables x (Comes.makes c n k kind l o to made low room) = add_tables (new_object s P n k kind (level s P)) c o
  both_tables x (Comes.refines c byte bytes slot slots d l o from parts to bytes_in slots_in low room) = add_tables (refined (shown s d.table d.index) byte bytes slot slots (level s P)) c o
  both_tables x (Comes.enters c k w o slots from room) = tables_added (enter P k s) (enter P k u) _ _ (enter_adds s P k g (known c o)).0 (enter_adds u P k j (known c o)).0 (same_new k)
  both_tables x (Comes.leaves c b w outer o e from) = leave_tables (first_of (shown s P b)) w c o

  both_stacks : (x : Effect) → Comes s P x → stack (apply x s) P ≡ stack (apply x u) P
  unfolding add overwrite put stack with_table
  both_stacks x Comes.keeps = m.same_stacks P refl
  both_stacks x (Comes.puts l w to from) = m.same_stacks P refl
  both_stacks x (Comes.writes d offset bs from may within) = m.same_stacks P refl
  both_stacks x (Comes.makes c n k kind l o to made low room) = m.same_stacks P refl
  both_stacks x (Comes.refines c byte bytes slot slots d l o from parts to bytes_in slots_in low room) = m.same_stacks P refl
  both_stacks x (Comes.enters c k w o slots from room) = (enter_adds s P k g (known c o)).1 ∙ pushed ∙ sym (enter_adds u P k j (known c o)).1
  both_stacks x (Comes.leaves c b w outer o e from) =
      let low = known c o in
      let l : Place = first_of (shown s P b) in
      left_stack (put l w s) P c (omega (arith, g.nine_stacks)) ∙ ap popped (m.same_stacks P refl) ∙ sym (left_stack (put l w u) P c (omega (arith, j.nine_stacks)))

  -- what P reaches afterwards it reached before, or it is the next entry of its table
  abbrev Grown : ℕ → ℕ → Type 0
  Grown t i = (Reaches s (only P) t i) ⊎ ((t ≡ P) × (i ≡ length (table s P).entries))

  -- so the bytes of an object that was there before were the same
  old_byte : (t i : ℕ) (p : Storage) (n : ℕ) → Grown t i → entry s t i ≡ Some (Object p) → Takes p n → SameAt s.bytes u.bytes n
  old_byte t i p n (inl r) is inside =
      let h = is_inside_bank s g t i p is in
      let h' = is_inside_bank u j t i p (sym (m.same_entries t i r) ∙ is) in
      (omega (arith, h.1, inside.1), (omega (arith, h'.1, inside.1), m.same_bytes t i p n r is inside))
  old_byte t i p n (inr new) is inside = let within : i < length (table s P).entries = rw new.0 at (entry_within s t i (Object p) is) in absurd (omega (arith, new.1))

  large_too : (c : ℕ) → Calls s P c → 18432 ≤ length u.bytes
  large_too c o =
      let open_there : In c (stack u P) = rw (← m.same_stacks P refl, o.on_top) here in
      let x = context_there u j P c open_there in
      j.large_bank P c (Object x.0) x.1

  -- an entry added in both: an object lies at the claim
  module _ (e : Entry) (c : ℕ) (o : Calls s P c) (room : (table s P).claim + takes e ≤ 2048) (place : (p : Storage) → e ≡ Object p → p.base ≡ block_start P + (table s P).claim + 4 * p.slots) where
    added_byte : (v w : State) (f : Entry) → Adds s v P e → Adds u w P f → e ≡ f → (t i : ℕ) (p : Storage) (n : ℕ) → Grown t i → entry v t i ≡ Some (Object p) → Takes p n → SameAt v.bytes w.bytes n
    added_byte v w f a b is_same t i p n grow is takes_it =
        elim (entry_was s v P e a t i (Object p) is) [
          | inl new ↦
              let size : takes e ≡ 4 * p.slots + p.bytes = rw (← new.1.1) refl in
              let base = place p (sym new.1.1) in
              let low = known c o in
              rw (a.bytes, bytes_of_w)
              (inside_written s.bytes u.bytes from zeros n (omega (arith, takes_it.0)) (omega (arith, takes_it.1, long)) (omega (arith, takes_it.1, o.large)) (omega (arith, takes_it.1, large_too c o)))
          | inr old ↦ rw (a.bytes, bytes_of_w) (same_written s.bytes u.bytes from from zeros zeros n refl refl (old_byte t i p n grow old takes_it))
        ]
      where
        from : ℕ
        from = block_start P + (table s P).claim

        zeros : List ℕ
        zeros = replicate (takes e) 0

        long : length zeros ≡ takes e
        long = length-replicate (takes e) 0

        bytes_of_w : w.bytes ≡ write_run u.bytes from zeros
        bytes_of_w = rw (same, is_same) b.bytes

    -- and named
    named_byte : (l : Place) (rights t i : ℕ) (p : Storage) (n : ℕ) → Grown t i → entry (apply (add_named P e l rights) s) t i ≡ Some (Object p) → Takes p n →
        SameAt (apply (add_named P e l rights) s).bytes (apply (add_named P e l rights) u).bytes n
    unfolding overwrite put entry table
    named_byte l rights t i p n grow is inside =
        same_written (add P e s).bytes (add P e u).bytes (slot_at l.by l.at) _ _ _ n refl (ap (λ (k : ℕ). word_bytes (encode (record { table = P; index = k; rights = rights }))) same_index)
        (added_byte (add P e s) (add P e u) e (add_adds s P e g (known c o)).0 (add_adds u P e j (known c o)).0 refl t i p n grow is inside)

  -- a new object lies at the claim
  new_place : (n k kind lvl : ℕ) (p : Storage) → new_object s P n k kind lvl ≡ Object p → p.base ≡ block_start P + (table s P).claim + 4 * p.slots
  unfolding new_object
  new_place n k kind lvl p e =
      let is : record { base = block_start P + (table s P).claim + 4 * k; bytes = n; slots = k; kind = kind; level = lvl } ≡ p = cc in
      rw (← is) refl

  both_bytes : (x : Effect) → Comes s P x → (t i : ℕ) (p : Storage) (n : ℕ) → Grown t i → entry (apply x s) t i ≡ Some (Object p) → Takes p n → SameAt (apply x s).bytes (apply x u).bytes n
  unfolding new_object leave with_stack with_table overwrite put entry table
  both_bytes x Comes.keeps t i p n grow is inside = old_byte t i p n grow is inside
  both_bytes x (Comes.puts l w to from) t i p n grow is inside = same_written s.bytes u.bytes _ _ _ _ n refl refl (old_byte t i p n grow is inside)
  both_bytes x (Comes.writes d offset bs from may within) t i p n grow is inside = same_written s.bytes u.bytes _ _ _ _ n refl refl (old_byte t i p n grow is inside)
  both_bytes x (Comes.makes c size k kind l o to made low room) t i p n grow is inside =
      named_byte (new_object s P size k kind (level s P)) c o (room_is (table s P) (4 * k + size) room).1 (new_place size k kind (level s P)) l 63 t i p n grow is inside
  both_bytes x (Comes.refines c byte bytes slot slots d l o from parts to bytes_in slots_in low room) t i p n grow is inside =
      named_byte (refined (shown s d.table d.index) byte bytes slot slots (level s P)) c o (room_is (table s P) 0 room).1 (λ q e. cc) l d.rights t i p n grow is inside
  both_bytes x (Comes.enters c k w o slots from room) t i p n grow is inside =
      same_written (enter P k s).bytes (enter P k u).bytes _ _ _ _ n (same_first k) refl
      (added_byte _ c o (rw add-zero (room_is (table s P) (4 * k) room).1) (new_place 0 k 1 (level s P + 1)) (enter P k s) (enter P k u) _ (enter_adds s P k g (known c o)).0 (enter_adds u P k j (known c o)).0 (same_new k) t i p n grow is inside)
  both_bytes x (Comes.leaves c b w outer o e from) t i p n grow is inside =
      let old = (left_was (put (first_of (shown s P b)) w s) P c (omega (arith, g.nine_tables, known c o)) t i (Object p) is).0 in
      same_written s.bytes u.bytes _ _ _ _ n refl refl (old_byte t i p n grow old inside)

  both_entries : (x : Effect) → Comes s P x → Comes u P x → (t i : ℕ) → Grown t i → entry (apply x s) t i ≡ entry (apply x u) t i
  unfolding entry
  both_entries x h k t i grow =
      elim (cases_eq t P) [
        | inl e ↦ rw (e, both_tables x h) refl
        | inr ne ↦
            elim grow [
              | inl r ↦ rw ((comes_moved s P x g h).other_tables t ne, (comes_moved u P x j k).other_tables t ne) (m.same_entries t i r)
              | inr new ↦ absurd (ne new.0)
            ]
      ]

  pub both_matches : (x : Effect) → Comes s P x → Comes u P x → ((t i : ℕ) → Reaches (apply x s) (only P) t i → (Reaches s (only P) t i) ⊎ ((t ≡ P) × (i ≡ length (table s P).entries))) → Matches (only P) (apply x s) (apply x u)
  both_matches x h k reaches =
      record {
        same_stacks = λ q is. rw is (both_stacks x h);
        same_entries = λ t i r. both_entries x h k t i (reaches t i r);
        same_bytes = λ t i o a r is takes. (both_bytes x h t i o a (reaches t i r) is takes).1.1;
      }
