-- Where the operands of an operator, and the effect of a call, come from. Nothing here rests on the
-- soundness of a store.
use Rattle.std.proofs.Common.{◌≡◌, ℕ, ◌+◌, ◌*◌, ◌/◌, ◌%◌, ◌==◌, ◌<◌, ◌≤◌, true, bit_and, bit_or, nat_le, nat_lt, List, [], ◌∷◌, length, Some, None, Option, refl, subst, arith}
use Rattle.std.proofs.lemmas.Bool.{ltb-true, leb-true}
use Rattle.std.specs.Option.{IfSome}
use Rattle.std.specs.Result.{IfOk}
use Rattle.bank.specs.Words.{word_at}
use Rattle.rules.specs.declared.entry.Entry.{Entry}
use Rattle.rules.specs.declared.entry.Entry.TheVariants.{Object, Control, Refined}
use Rattle.rules.specs.declared.entry.TypeControl.{TypeControl}
use Rattle.rules.specs.declared.descriptor.Descriptor.{Descriptor}
use Rattle.rules.specs.declared.shown.Place.{Place}
use Rattle.rules.specs.declared.shown.Shown.{Shown}
use Rattle.rules.specs.State.{State, byte_at, encode, entry, has, held, level, named, read, shown, slot_at, stack, table, type1, type2, write}
use Rattle.rules.specs.Tests.{control, control_by, current, destination, environment, has_room, kind_by, level_by, operator, overwritable, resolve, source, source_or_null, source_with}
use Rattle.rules.specs.Effects.{Effect, add_named, close_context, keep, new_object, open_context, put_word, write_bytes}
use Rattle.rules.specs.Operators.{first_of, has_parts, refined, with_rights}
use Rattle.soundness.proofs.Binds.{after, after_check, after_some, either, some_is}

-- the operator is called by a loaded task in a sealed store, and c is its current context
pub record Calls (s : State) (q c : ℕ) : Type 0 where
  pub large : 18432 ≤ length s.bytes
  pub sealed : s.sealed ≡ true
  pub outer : List ℕ
  pub on_top : stack s q ≡ c ∷ outer

-- what a selector can show for a right: the current context, or what one of its first slots names
-- with that right
pub data Environment (s : State) (q right : ℕ) : Shown → Type 0 where
  the_context : (c : ℕ) → Calls s q c → Environment s q right (shown s q c)
  by_slot : (c k : ℕ) (d : Descriptor) → Calls s q c → k < 4 → named s (held s (record { by = shown s q c; at = k })) ≡ Some d → has right d.rights ≡ true → Environment s q right (shown s d.table d.index)

-- a slot that a selector can name
pub record Selected (s : State) (q right : ℕ) (l : Place) : Type 0 where
  pub environment : Environment s q right l.by
  pub within : l.at < l.by.slots

-- a descriptor that is read from such a slot, and a slot that is written
pub record Source (s : State) (q : ℕ) (d : Descriptor) : Type 0 where
  pub place : Place
  pub selected : Selected s q read place
  pub is_named : named s (held s place) ≡ Some d

abbrev pub Destination : State → ℕ → Place → Type 0
Destination s q l = Selected s q write l

-- a type control that is named with a right
pub record ControlBy (s : State) (q right : ℕ) (k : TypeControl) : Type 0 where
  pub by : Descriptor
  pub source : Source s q by
  pub has_right : has right by.rights ≡ true
  pub is_control : entry s by.table by.index ≡ Some (Control k)

-- a descriptor that a task may store: that of a source, with fewer rights, or with those that a
-- type control adds
pub data Given (s : State) (q : ℕ) : Descriptor → Type 0 where
  as_it_is : (d : Descriptor) → Source s q d → Given s q d
  with_fewer : (d : Descriptor) (mask : ℕ) → Source s q d → Given s q (with_rights (bit_and d.rights mask) d)
  with_more : (d : Descriptor) (k : TypeControl) → Source s q d → ControlBy s q type2 k → kind_by (entry s d.table d.index) ≡ k.kind → Given s q (with_rights (bit_or d.rights k.rights) d)

-- a word that it may store where a level is allowed
pub data Word (s : State) (q n : ℕ) : ℕ → Type 0 where
  nothing_named : Word s q n 0
  word_of : (d : Descriptor) → Given s q d → level_by (entry s d.table d.index) ≤ n → Word s q n (encode d)

-- the type of an object that it may make: generic, or that of a type control with type right 1
pub data Makes (s : State) (q : ℕ) : ℕ → Type 0 where
  generic : Makes s q 0
  of_type : (k : TypeControl) → ControlBy s q type1 k → Makes s q k.kind

-- a context of k slots may be the next one of a task
pub record MayOpen (s : State) (q k : ℕ) : Type 0 where
  pub has_slots : 4 ≤ k
  pub few_slots : k ≤ 64
  pub few_levels : level s q < 8

-- the effects of operators that a task calls
pub data Comes (s : State) (q : ℕ) : Effect → Type 0 where
  keeps : Comes s q keep
  puts : (l : Place) (w : ℕ) → Destination s q l → Word s q l.by.level w → Comes s q (put_word l w)
  writes : (d : Descriptor) (offset : ℕ) (bs : List ℕ) → Source s q d → has write d.rights ≡ true → offset + length bs ≤ (shown s d.table d.index).bytes → Comes s q (write_bytes (byte_at (shown s d.table d.index) offset) bs)
  makes : (c n k kind : ℕ) (l : Place) → Calls s q c → Destination s q l → Makes s q kind → level s q ≤ l.by.level → has_room (table s q) (4 * k + n) ≡ true → Comes s q (add_named q (new_object s q n k kind (level s q)) l 63)
  refines : (c byte bytes slot slots : ℕ) (d : Descriptor) (l : Place) → Calls s q c → Source s q d → has_parts (entry s d.table d.index) ≡ true → Destination s q l →
      byte + bytes ≤ (shown s d.table d.index).bytes → slot + slots ≤ (shown s d.table d.index).slots → level s q ≤ l.by.level → has_room (table s q) 0 ≡ true →
      Comes s q (add_named q (refined (shown s d.table d.index) byte bytes slot slots (level s q)) l d.rights)
  enters : (c k w : ℕ) → Calls s q c → MayOpen s q k → Word s q (level s q + 1) w → has_room (table s q) (4 * k) ≡ true → Comes s q (open_context q k w)
  leaves : (c b w : ℕ) (outer : List ℕ) → Calls s q c → stack s q ≡ c ∷ b ∷ outer → Word s q (shown s q b).level w → Comes s q (close_context q c (first_of (shown s q b)) w)

-- what the tests of an operator find
module _ (s : State) (q : ℕ) where
  pub operator_finds : IfOk (operator s q) (Calls s q)
  unfolding operator
  operator_finds =
      after_check _ (nat_le 18432 (length s.bytes)) _ _ (λ large.
      after_check _ s.sealed _ _ (λ sealed.
      some_is _ (current (stack s q)) _ (λ c e. on_stack c large sealed (stack s q) refl e)))
    where
      on_stack : (c : ℕ) → nat_le 18432 (length s.bytes) ≡ true → s.sealed ≡ true → (cs : List ℕ) → stack s q ≡ cs → current cs ≡ Some c → Calls s q c
      on_stack c large sealed [] is e = cc
      on_stack c large sealed (b ∷ cs) is e =
          let same : b ≡ c = cc in
          record { large = leb-true _ _ large; sealed = sealed; outer = cs; on_top = rw same at is }

  module _ (c p sel : ℕ) (o : Calls s q c) where
    environment_finds : (right : ℕ) → IfOk (environment right s q c p sel) (Environment s q right)
    unfolding environment held
    environment_finds right =
        either _ (sel % 4 == 0) _ _ (Environment.the_context c o)
        (after_some _ (named s (word_at s.bytes (slot_at (shown s q c) (sel % 4)))) _ _ (λ d n.
        after_check _ (has right d.rights) _ _ (λ may. Environment.by_slot c (sel % 4) d o (omega arith) n may)))

    pub resolve_finds : (right : ℕ) → IfOk (resolve right s q c p sel) (Selected s q right)
    unfolding resolve
    resolve_finds right =
        after _ _ (environment right s q c p sel) _ (environment_finds right) (λ v from.
        after_check _ (nat_lt (sel / 4) v.slots) _ _ (λ less. record { environment = from; within = ltb-true _ _ less }))

    pub source_or_null_finds : IfOk (source_or_null s q c p sel) (λ x. IfSome x (Source s q))
    unfolding source_or_null
    source_or_null_finds =
        after _ _ (resolve read s q c p sel) _ (resolve_finds read) (λ l from.
        if_named (named s (held s l)) (λ d n. record { place = l; selected = from; is_named = n }))
      where
        if_named : (x : Option Descriptor) → ((d : Descriptor) → x ≡ Some d → Source s q d) → IfSome x (Source s q)
        if_named (Some d) h = h d refl
        if_named None h = tt

    pub source_finds : IfOk (source s q c p sel) (Source s q)
    unfolding source
    source_finds =
        after _ _ (source_or_null s q c p sel) _ source_or_null_finds (λ x from.
        some_is _ x _ (λ d e. subst (λ (y : Option Descriptor). IfSome y (Source s q)) e from))

    pub source_with_finds : (right : ℕ) → IfOk (source_with right s q c p sel) (λ d. Source s q d × (has right d.rights ≡ true))
    unfolding source_with
    source_with_finds right = after _ _ (source s q c p sel) _ source_finds (λ d from. after_check _ (has right d.rights) _ _ (λ may. (from, may)))

    pub control_finds : (right : ℕ) → IfOk (control right s q c p sel) (ControlBy s q right)
    unfolding control
    control_finds right =
        after _ _ (source_with right s q c p sel) _ (source_with_finds right) (λ d from.
        some_is _ (control_by (entry s d.table d.index)) _ (λ k e. record { by = d; source = from.0; has_right = from.1; is_control = is_control k (entry s d.table d.index) e }))
      where
        is_control : (k : TypeControl) (x : Option Entry) → control_by x ≡ Some k → x ≡ Some (Control k)
        is_control k (Some (Control m)) e = cc
        is_control k (Some (Object m)) e = cc
        is_control k (Some (Refined m)) e = cc
        is_control k None e = cc

    pub destination_finds : IfOk (destination s q c p sel) (Destination s q)
    unfolding destination
    destination_finds = after _ _ (resolve write s q c p sel) _ (resolve_finds write) (λ l from. after_check _ (overwritable (named s (held s l))) _ _ (λ _. from))
