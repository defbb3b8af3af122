-- What the effect of a call must be so that it keeps a sound store sound.
use Rattle.std.proofs.Common.{◌≡◌, ◌≢◌, ◌⊎◌, ℕ, ◌+◌, ◌*◌, ◌<◌, ◌≤◌, true, false, List, ◌∷◌, length, Some, refl, ◌∙◌, inl, inr, add-zero, arith}
use Rattle.rules.proofs.Words.{encode_small, names_encoded}
use Rattle.store.proofs.Orders.{room_is}
use Rattle.rules.specs.declared.entry.Entry.{Entry}
use Rattle.rules.specs.declared.entry.Entry.TheVariants.{Object}
use Rattle.rules.specs.declared.entry.Storage.{Storage}
use Rattle.rules.specs.declared.descriptor.Descriptor.{Descriptor}
use Rattle.rules.specs.declared.shown.Place.{Place}
use Rattle.rules.specs.declared.shown.Shown.{Shown}
use Rattle.rules.specs.State.{State, byte_at, encode, entry, kind_of, level, level_of, stack, table, takes}
use Rattle.rules.specs.Tests.{has_room, level_by}
use Rattle.rules.specs.Effects.{Effect, keep, put_word, write_bytes, add_entry, add_named, start_task, open_context, close_context, seal, add, enter, new_object}
use Rattle.soundness.specs.Sound.{IsKind, IsUserKind, NullOrLive, Sound, names}
use Rattle.soundness.proofs.Additions.{add_adds, enter_adds}
use Rattle.soundness.proofs.Changes.{Addable, AddsContext, AddsPlain, Ready, SlotIn}
use Rattle.soundness.proofs.Finds.{Holds, Shows, shows_nothing, shows_part}
use Rattle.soundness.proofs.Origins.{MayOpen}

-- a word that a slot of an object of table t and level n may hold
pub record MayPut (s : State) (t n w : ℕ) : Type 0 where
  pub is_word : w < 4294967296
  pub kept : NullOrLive s t n w

-- the bytes from an address on, n of them, are data bytes of an object, if there are any
pub data InData (s : State) (a n : ℕ) : Type 0 where
  no_bytes : n ≡ 0 → InData s a n
  in_data : (t i : ℕ) (o : Storage) → entry s t i ≡ Some (Object o) → o.base ≤ a → a + n ≤ o.base + o.bytes → InData s a n

-- a slot that may name the entry e that is added to table t, with these rights
pub record MayNameNew (s : State) (t : ℕ) (e : Entry) (l : Place) (rights : ℕ) : Type 0 where
  pub slot_in : SlotIn s l
  pub no_higher : level_of e ≤ l.by.level
  pub at_home : 1 ≤ level_of e → t ≡ l.by.owner
  pub few_rights : rights ≤ 63

-- the current context of task q was called from another, and a word may be put into a slot first
pub record Closes (s : State) (q c : ℕ) (l : Place) (w : ℕ) : Type 0 where
  pub calling : ℕ
  pub outer : List ℕ
  pub opened : stack s q ≡ c ∷ calling ∷ outer
  pub known : q < 9
  pub slot_in : SlotIn s l
  pub may_put : MayPut s l.by.owner l.by.level w

-- the context that a task opens next, added
abbrev pub Enters : State → ℕ → ℕ → Type 0
Enters s q k = AddsContext s (enter q k s) q (new_object s q 0 k 1 (level s q + 1))

abbrev pub Fits : State → Effect → Type 0
Fits s keep = Unit {0}
Fits s (put_word l w) = SlotIn s l × MayPut s l.by.owner l.by.level w
Fits s (write_bytes a bs) = InData s a (length bs)
Fits s (add_entry t e) = AddsPlain s (add t e s) t e
Fits s (add_named t e l rights) = AddsPlain s (add t e s) t e × MayNameNew s t e l rights
Fits s (start_task q k) = Enters s q k
Fits s (open_context q k w) = Enters s q k × MayPut s q (level s q + 1) w
Fits s (close_context q c l w) = Closes s q c l w
Fits s seal = Unit {0}

-- the type of an object that a load call or an operator makes; it is not that of contexts
abbrev pub IsMadeKind : ℕ → Type 0
IsMadeKind k = (k ≡ 0) ⊎ IsUserKind k

pub made_kind : (k : ℕ) → IsMadeKind k → (k ≢ 1) × IsKind k
made_kind k (inl generic) = (λ one. absurd (omega arith), inl generic)
made_kind k (inr given) = (λ one. absurd (omega (arith, given.0)), inr (inr given))

-- the word of a descriptor that a task holds may stand in a slot whose level is high enough, in the
-- task's own table
pub may_put : (s : State) (q t n : ℕ) (d : Descriptor) → Holds s q d → level_by (entry s d.table d.index) ≤ n → (1 ≤ n → q ≡ t) → MayPut s t n (encode d)
may_put s q t n d h low home =
    record {
      is_word = encode_small d h.is_small;
      kept = names d (names_encoded s d h.of h.is_small h.is_there)
          (record {
            no_context = rw h.is_there h.no_context;
            no_higher = low;
            at_home = λ up. h.at_home (rw h.is_there at up) ∙ home (omega arith);
          });
    }

-- an entry for which a table has room, of a level that is not below the task's if that is 2 or more
module _ (s : State) (g : Sound s) (t : ℕ) (e : Entry) (large : 18432 ≤ length s.bytes) (known : t < 9) where
  addable : (2 ≤ level s t → level s t ≤ level_of e) → has_room (table s t) (takes e) ≡ true → Ready s t e → Addable s t e
  addable high room ready =
      let there = room_is (table s t) (takes e) room in
      record {
        known = known;
        large = large;
        few = there.0;
        room = there.1;
        ready = ready;
        rises = λ i x is up.
            let below = g.no_higher t i x is in
            omega (arith, high (omega arith));
      }

  -- one that is no context
  pub adds_plain : kind_of e ≢ 1 → level_of e ≤ level s t → (2 ≤ level s t → level s t ≤ level_of e) → (s.sealed ≡ false → level_of e ≡ 0) → has_room (table s t) (takes e) ≡ true → Ready s t e → AddsPlain s (add t e s) t e
  adds_plain other low high loaded room ready =
      let a = add_adds s t e g known in
      record {
        adds = a.0;
        addable = addable high room ready;
        no_context = other;
        no_higher = low;
        loaded = loaded;
        same_stack = a.1;
      }

module _ (s : State) (g : Sound s) (q : ℕ) where
  -- bytes that are shown
  pub in_shown : (v : Shown) (offset n : ℕ) → Shows s q v → offset + n ≤ v.bytes → InData s (byte_at v offset) n
  in_shown v offset n (shows_nothing none none') inside = no_bytes (omega arith)
  in_shown v offset n (shows_part e p) inside = in_data v.owner v.object p.object p.is_there (omega (arith, p.base_is)) (omega (arith, p.base_is, p.bytes_inside))

  -- the next context of a task, for which there is room
  pub enters : (k : ℕ) → 18432 ≤ length s.bytes → q < 9 → q ≢ 0 → MayOpen s q k → (s.sealed ≡ false → level s q ≡ 0) → has_room (table s q) (4 * k) ≡ true → Enters s q k
  unfolding new_object
  enters k large known task may loading room =
      let a = enter_adds s q k g known in
      record {
        adds = a.0;
        addable = addable s g q (new_object s q 0 k 1 (level s q + 1)) large known (λ _. omega arith) (rw add-zero room) (refl, inr (inl refl));
        task = task;
        is_context = refl;
        has_slots = λ o is. let same : k ≡ o.slots = cc in omega (arith, may.has_slots);
        few_slots = λ o is. let same : k ≡ o.slots = cc in omega (arith, may.few_slots);
        no_bytes = λ o is. let none : 0 ≡ o.bytes = cc in omega arith;
        few_levels = may.few_levels;
        next_level = refl;
        loading = loading;
        opened = a.1;
      }
