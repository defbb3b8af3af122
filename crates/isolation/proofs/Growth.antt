-- What a side obtains, reaches and alters after a call of one of its tasks it had before, but for
-- the entry that the call adds.
use Rattle.std.proofs.Common.{◌≡◌, ◌⊎◌, ℕ, ◌+◌, ◌/◌, ◌%◌, ◌^◌, ◌<◌, ◌≤◌, true, false, bit_and, bit_or, Some, None, Option, refl, sym, ap, subst, ◌∙◌, inl, inr, arith}
use Rattle.std.specs.Int.{bit_at}
use Rattle.std.proofs.lemmas.Bool.{cases_eq, eq-eqb, eqb-true}
use Rattle.std.proofs.lemmas.Option.{slice_get_past}
use Rattle.std.proofs.lemmas.Nat.Bits.{bit_at_and, bit_at_or, bit_at-lt, shr_and_one}
use Rattle.std.proofs.lemmas.Nat.{and_mask}
use Rattle.bank.specs.Words.{word_at}
use Rattle.rules.specs.declared.entry.Entry.{Entry}
use Rattle.rules.specs.declared.entry.Entry.TheVariants.{Object, Control, Refined}
use Rattle.rules.specs.declared.entry.Refinement.{Refinement}
use Rattle.rules.specs.declared.entry.Storage.{Storage}
use Rattle.rules.specs.declared.entry.TypeControl.{TypeControl}
use Rattle.rules.specs.declared.descriptor.Descriptor.{Descriptor}
use Rattle.rules.specs.declared.shown.Shown.{Shown}
use Rattle.rules.specs.State.{State, entry, has, held, kind_of, named, read, shown, slot_at, stack, table, type2, whole, part}
use Rattle.rules.specs.Operators.{has_parts, refined, with_rights}
use Rattle.rules.specs.Tests.{kind_by}
use Rattle.soundness.specs.Sound.{In, Inside, NullOrLive, Sound, names, null, slot_of}
use Rattle.soundness.proofs.Changes.{SlotIn}
use Rattle.soundness.proofs.Finds.{shows, slot_shown}
use Rattle.soundness.proofs.Origins.{Given, Source, as_it_is, with_fewer, with_more}
use Rattle.rules.proofs.Words.{named_is, zero_names_nothing}
use Rattle.isolation.specs.Reach.{Alters, HasSlot, Obtains, Reaches, Side, amplified, beneath, in_context, in_shown, only, open_context, written, written_beneath}
use Rattle.isolation.proofs.Given.{source_obtained}
use Rattle.isolation.proofs.Sides.{context_there, obtained_holds, obtains_more}
use Rattle.isolation.proofs.Moves.{IsEntry, Moved, New, Put, RightsOf, WordOf, fresh, given, new_object, new_part, no_entry, of_new, old_word, put_word}

-- every right of the first is one of the second
abbrev pub Fewer : ℕ → ℕ → Type 0
Fewer r t = (k : ℕ) → bit_at r k ≡ 1 → bit_at t k ≡ 1

fewer_and : (r mask : ℕ) → Fewer (bit_and r mask) r
fewer_and r mask k e = omega (arith, bit_at_and r mask k, bit_at-lt r k, bit_at-lt mask k)

fewer_or : (r t more : ℕ) → Fewer r t → Fewer (bit_or r more) (bit_or t more)
fewer_or r t more fewer k e = go (cases_eq (bit_at r k) 1)
  where
    go : (bit_at r k ≡ 1) ⊎ (bit_at r k ≡ 1 → ⊥) → bit_at (bit_or t more) k ≡ 1
    go (inl y) = omega (arith, bit_at_or t more k, fewer k y, bit_at-lt more k)
    go (inr n) = omega (arith, bit_at_or t more k, bit_at_or r more k, bit_at-lt r k, bit_at-lt t k, bit_at-lt more k)

fewer_has : (k r t : ℕ) → Fewer r t → has (2 ^ k) r ≡ true → has (2 ^ k) t ≡ true
fewer_has k r t fewer e = eq-eqb _ _ (bit_is k t ∙ fewer k (sym (bit_is k r) ∙ eqb-true _ _ e))
  where
    bit_is : (k n : ℕ) → n / 2 ^ k % 2 ≡ bit_at n k
    bit_is k n = sym (and_mask (n / 2 ^ k) 1) ∙ shr_and_one n k

-- a side obtains what a descriptor names, with all its rights at least
pub record Had (s : State) (A : Side) (d : Descriptor) : Type 0 where
  pub by : Descriptor
  pub obtained : Obtains s A by
  pub same_table : by.table ≡ d.table
  pub same_index : by.index ≡ d.index
  pub fewer : Fewer d.rights by.rights

as_it_was : (s : State) (A : Side) (d : Descriptor) → Obtains s A d → Had s A d
as_it_was s A d o = record { by = d; obtained = o; same_table = refl; same_index = refl; fewer = λ k e. e }

same_entry : (s : State) (A : Side) (d : Descriptor) (h : Had s A d) → entry s h.by.table h.by.index ≡ entry s d.table d.index
same_entry s A d h = rw (h.same_table, h.same_index) refl

-- nothing stands yet where the next entry will
pub no_fresh : (s : State) (q : ℕ) → entry s q (fresh s q) ≡ None
unfolding entry
no_fresh s q = slice_get_past (table s q).entries (fresh s q) (omega arith)

-- what an object shows, and a part of one
object_shown : (s : State) (t i : ℕ) (o : Storage) → entry s t i ≡ Some (Object o) → shown s t i ≡ whole t i o
unfolding shown
object_shown s t i o is = rw is refl

part_shown : (s : State) (t i : ℕ) (r : Refinement) (o : Storage) → entry s t i ≡ Some (Refined r) → entry s r.table r.index ≡ Some (Object o) → shown s t i ≡ part r (Some (Object o))
unfolding shown
part_shown s t i r o is there = rw (is, there) refl

module _ (s : State) (g : Sound s) where
  had_there : (A : Side) (d : Descriptor) → Had s A d → (x : Entry) × (entry s d.table d.index ≡ Some x)
  had_there A d h = let old = (obtained_holds s g A h.by h.obtained).1.1 in (old.of, sym (same_entry s A d h) ∙ old.is_there)

  -- what lies in a slot that is shown
  slot_is : (t i k : ℕ) → k < (shown s t i).slots → SlotIn s (record { by = shown s t i; at = k })
  unfolding shown
  slot_is t i k less = go (entry s t i) refl
    where
      go : (x : Option Entry) → entry s t i ≡ x → SlotIn s (record { by = shown s t i; at = k })
      go None e = absurd (omega (arith, rw e at less))
      go (Some x) e = (slot_shown s g t (shown s t i) k (shows s g t t i x e (λ _. refl)) less).slot_in

  -- the word of a slot names nothing, or an entry that is there
  live : (t i : ℕ) (o : Storage) (k : ℕ) (u : State) (d : Descriptor) → entry s t i ≡ Some (Object o) → k < o.slots → named u (word_at s.bytes (slot_of o k)) ≡ Some d → named s (word_at s.bytes (slot_of o k)) ≡ Some d
  live t i o k u d is less n = go (word_at s.bytes (slot_of o k)) (g.slots t i o is k less) n
    where
      go : (w : ℕ) → NullOrLive s t o.level w → named u w ≡ Some d → named s w ≡ Some d
      go w (null e) m = let wrong : None ≡ Some d = sym (zero_names_nothing u) ∙ (rw e at m) in cc
      go w (names f m' may) m = let same : f ≡ d = (named_is s w f m').0 ∙ sym (named_is u w d m).0 in rw (← same) m'

  module _ (q : ℕ) where
    -- what a task may store it obtained, with at least those rights
    given_had : (d : Descriptor) → Given s q d → Had s (only q) d
    given_had d (as_it_is _ h) = as_it_was s (only q) d (source_obtained s g q d h)
    given_had _ (with_fewer d mask h) = record { by = d; obtained = source_obtained s g q d h; same_table = refl; same_index = refl; fewer = fewer_and d.rights mask }
    given_had _ (with_more d k h c kind) =
        as_it_was s (only q) _ (amplified c.by d k (source_obtained s g q c.by c.source) c.has_right c.is_control (source_obtained s g q d h) kind)

module _ (s u : State) (q : ℕ) (g : Sound s) (j : Sound u) (m : Moved s u q) where
  -- an entry that is there before and afterwards is the same
  still : (t i : ℕ) (x y : Entry) → entry s t i ≡ Some x → entry u t i ≡ Some y → y ≡ x
  still t i x y is now =
      elim (m.was t i y now) [
        | inl old ↦ cc
        | inr (home, (next, _)) ↦ let none : entry s t i ≡ None = rw (home, next) (no_fresh s q) in cc
      ]

  -- and shows the same
  shown_same : (t i : ℕ) (x : Entry) → entry s t i ≡ Some x → entry u t i ≡ Some x → shown u t i ≡ shown s t i
  unfolding shown
  shown_same t i (Object o) is now = rw (is, now) refl
  shown_same t i (Control k) is now = rw (is, now) refl
  shown_same t i (Refined r) is now =
      let old : Inside s t r = g.inside t i r is in
      let new : Inside u t r = j.inside t i r now in
      let same : Object new.object ≡ Object old.object = still r.table r.index (Object old.object) (Object new.object) old.is_there new.is_there in
      let object : new.object ≡ old.object = cc in
      rw (is, now, old.is_there, new.is_there, object) refl

  -- what stands at the place of the next entry afterwards is the new one
  is_new : (x : Entry) → entry u q (fresh s q) ≡ Some x → IsEntry s q m.new x
  is_new x now =
      elim (m.was q (fresh s q) x now) [
        | inl old ↦ let none = no_fresh s q in cc
        | inr (_, (_, is)) ↦ is
      ]

  module _ (A : Side) (mine : A q) where
    -- where a descriptor that the side obtains afterwards comes from: what the side had, or the new
    -- entry, which is a part of what it had, or a new object
    pub data Got (d : Descriptor) : Type 0 where
      of_old : Had s A d → Got d
      of_part : (f : Descriptor) (byte bytes slot slots : ℕ) (from : Source s q f) (parts : has_parts (entry s f.table f.index) ≡ true) (inside : slot + slots ≤ (shown s f.table f.index).slots) →
          m.new ≡ new_part f byte bytes slot slots from parts inside → d.table ≡ q → d.index ≡ fresh s q → Had s A (with_rights d.rights f) → Got d
      of_object : (o : Storage) → m.new ≡ new_object o → d.table ≡ q → d.index ≡ fresh s q → Got d

    of_obtained : (d : Descriptor) → Obtains s A d → Got d
    of_obtained d o = of_old (as_it_was s A d o)

    mine_too : (d : Descriptor) → Had s (only q) d → Had s A d
    mine_too d h = record { by = h.by; obtained = obtains_more s (only q) A (λ t e. subst A (sym e) mine) h.by h.obtained; same_table = h.same_table; same_index = h.same_index; fewer = h.fewer }

    put_grows : (d : Descriptor) → Put s q m.new d → Got d
    put_grows d (given h) = of_old (mine_too d (given_had s g q d h))
    put_grows d (of_new home next rights) = go m.new refl rights
      where
        go : (n : New s q) → m.new ≡ n → RightsOf s q n d → Got d
        go no_entry e r = absurd r
        go (new_object o) e r = of_object o e home next
        go (new_part f byte bytes slot slots from parts inside) e r =
            of_part f byte bytes slot slots from parts inside e home next
            (mine_too (with_rights d.rights f) (record { by = f; obtained = source_obtained s g q f from; same_table = refl; same_index = refl; fewer = λ k b. rw r at b }))

    -- what the slot of an object names afterwards
    slot_grows : (v : Shown) (k : ℕ) (d : Descriptor) → SlotIn u (record { by = v; at = k }) → named u (held u (record { by = v; at = k })) ≡ Some d →
        ((o : Storage) → entry s v.owner v.object ≡ Some (Object o) → named s (held s (record { by = v; at = k })) ≡ Some d → Obtains s A d) → Got d
    unfolding held
    slot_grows v k d i n before =
        let place : slot_at v k ≡ slot_of i.object (v.slot + k) = rw i.base_is refl in
        let n' : named u (word_at u.bytes (slot_of i.object (v.slot + k))) ≡ Some d = rw place at n in
        go (m.words v.owner v.object i.object (v.slot + k) i.is_there i.within) place n'
      where
        go : WordOf s u q m.new v.owner v.object i.object (v.slot + k) → slot_at v k ≡ slot_of i.object (v.slot + k) → named u (word_at u.bytes (slot_of i.object (v.slot + k))) ≡ Some d → Got d
        go (put_word put) place now = put_grows d (put d now)
        go (old_word is same) place now =
            of_obtained d (before i.object is (rw place (live s g v.owner v.object i.object (v.slot + k) u d is i.within (rw same at now))))

    -- in slots that an old entry shows
    old_slots : (t i : ℕ) (x y : Entry) (k : ℕ) (d : Descriptor) → entry s t i ≡ Some x → entry u t i ≡ Some y → HasSlot u (shown u t i) k d → (HasSlot s (shown s t i) k d → Obtains s A d) → Got d
    old_slots t i x y k d is now h before =
        let now' : entry u t i ≡ Some x = rw (← still t i x y is now) now in
        let same : shown u t i ≡ shown s t i = shown_same t i x is now' in
        slot_grows (shown u t i) k d (slot_is u j t i k h.0) h.1 (λ o e n. before (rw same at h.0, rw same at n))

    -- in those of a new object
    object_slots : (o : Storage) (k : ℕ) (d : Descriptor) → entry u q (fresh s q) ≡ Some (Object o) → HasSlot u (shown u q (fresh s q)) k d → Got d
    object_slots o k d now h =
        let whole_there : shown u q (fresh s q) ≡ whole q (fresh s q) o = object_shown u q (fresh s q) o now in
        slot_grows (shown u q (fresh s q)) k d (slot_is u j q (fresh s q) k h.0) h.1 (λ p e n. let none = no_fresh s q in let old : entry s q (fresh s q) ≡ Some (Object p) = rw whole_there at e in cc)

    -- in those of a new part, which are slots of what its source shows
    part_slots : (f : Descriptor) (byte bytes slot slots lvl k : ℕ) (d : Descriptor) → slot + slots ≤ (shown s f.table f.index).slots →
        entry u q (fresh s q) ≡ Some (refined (shown s f.table f.index) byte bytes slot slots lvl) → HasSlot u (shown u q (fresh s q)) k d →
        (HasSlot s (shown s f.table f.index) (slot + k) d → Obtains s A d) → Got d
    unfolding held
    part_slots f byte bytes slot slots lvl k d fits now h before =
        let v : Shown = shown s f.table f.index in
        let r : Refinement = record { table = v.owner; index = v.object; byte = v.byte + byte; bytes = bytes; slot = v.slot + slot; slots = slots; level = lvl } in
        let new : Inside u q r = j.inside q (fresh s q) r now in
        let w : shown u q (fresh s q) ≡ part r (Some (Object new.object)) = part_shown u q (fresh s q) r new.object now new.is_there in
        let less : k < slots = rw w at h.0 in
        let less' : slot + k < v.slots = omega arith in
        let old : SlotIn s (record { by = v; at = slot + k }) = slot_is s g f.table f.index (slot + k) less' in
        let same : Object new.object ≡ Object old.object = still v.owner v.object (Object old.object) (Object new.object) old.is_there new.is_there in
        let base : new.object.base ≡ v.base = let object : new.object ≡ old.object = cc in rw object (sym old.base_is) in
        let place : slot_at (shown u q (fresh s q)) k ≡ slot_at v (slot + k) = rw (w, base) (omega arith) in
        slot_grows (shown u q (fresh s q)) k d (slot_is u j q (fresh s q) k h.0) h.1 (λ o e n. before (less', rw place at n))

    -- the new entry, as a part or as an object
    part_there : (f : Descriptor) (byte bytes slot slots : ℕ) (from : Source s q f) (parts : has_parts (entry s f.table f.index) ≡ true) (inside : slot + slots ≤ (shown s f.table f.index).slots) (x : Entry) →
        m.new ≡ new_part f byte bytes slot slots from parts inside → entry u q (fresh s q) ≡ Some x → (lvl : ℕ) × (x ≡ refined (shown s f.table f.index) byte bytes slot slots lvl)
    part_there f byte bytes slot slots from parts inside x e now = rw e at (is_new x now)

    object_there : (o : Storage) (x : Entry) → m.new ≡ new_object o → entry u q (fresh s q) ≡ Some x → x ≡ Object o
    object_there o x e now = rw e at (is_new x now)

    context_before : (t c : ℕ) → In c (stack u t) → (In c (stack s t)) ⊎ ((t ≡ q) × (c ≡ fresh s q))
    context_before t c i =
        elim (cases_eq t q) [
          | inl e ↦ elim (m.contexts c (rw e at i)) [
            | inl old ↦ inl (rw e old)
            | inr next ↦ inr (e, next)
          ]
          | inr n ↦ inl (rw (m.other_stacks t n) at i)
        ]

    -- in slots that an obtained descriptor shows
    shown_grows : (e : Descriptor) (k : ℕ) (d : Descriptor) (x : Entry) → entry u e.table e.index ≡ Some x → Got e → has read e.rights ≡ true → HasSlot u (shown u e.table e.index) k d → Got d
    shown_grows e k d x now (of_old had) r h =
        let old = had_there s g A e had in
        old_slots e.table e.index old.0 x k d old.1 now h (λ b. in_shown had.by k d had.obtained (fewer_has 0 e.rights had.by.rights had.fewer r) (rw (had.same_table, had.same_index) b))
    shown_grows e k d x now (of_part f byte bytes slot slots from parts inside new home next had) r h =
        let now' : entry u q (fresh s q) ≡ Some x = rw (home, next) at now in
        let h' : HasSlot u (shown u q (fresh s q)) k d = rw (home, next) at h in
        let is = part_there f byte bytes slot slots from parts inside x new now' in
        part_slots f byte bytes slot slots is.0 k d inside (rw is.1 at now') h'
        (λ b. in_shown had.by (slot + k) d had.obtained (fewer_has 0 e.rights had.by.rights had.fewer r) (rw (had.same_table, had.same_index) b))
    shown_grows e k d x now (of_object o new home next) r h =
        let now' : entry u q (fresh s q) ≡ Some x = rw (home, next) at now in
        let is = object_there o x new now' in
        object_slots o k d (rw is at now') (rw (home, next) at h)

    -- with a type control
    control_grows : (c d : Descriptor) (k : TypeControl) (x : Entry) → Got c → has type2 c.rights ≡ true → entry u c.table c.index ≡ Some (Control k) → Got d → entry u d.table d.index ≡ Some x → kind_of x ≡ k.kind →
        Got (with_rights (bit_or d.rights k.rights) d)
    control_grows c d k x (of_part f byte bytes slot slots from parts inside new home next had) r is got now e =
        let other = part_there f byte bytes slot slots from parts inside (Control k) new (rw (home, next) at is) in let wrong = other.1 in cc
    control_grows c d k x (of_object o new home next) r is got now e = let wrong = object_there o (Control k) new (rw (home, next) at is) in cc
    control_grows c d k x (of_old had) r is (of_object o new home next) now e = of_object o new home next
    control_grows c d k x (of_old had) r is (of_part f byte bytes slot slots from parts inside new home next had') now e =
        let part_is = part_there f byte bytes slot slots from parts inside x new (rw (home, next) at now) in
        let kind : kind_of x ≡ 0 = rw part_is.1 refl in
        absurd (omega (arith, j.controls c.table c.index k is))
    control_grows c d k x (of_old had) r is (of_old had') now e =
        let old = had_there s g A c had in
        let old' = had_there s g A d had' in
        let control : Control k ≡ old.0 = still c.table c.index old.0 (Control k) old.1 is in
        let same : x ≡ old'.0 = still d.table d.index old'.0 x old'.1 now in
        let kind : kind_by (entry s had'.by.table had'.by.index) ≡ k.kind = rw (same_entry s A d had', old'.1, ← same) e in
        of_old (record {
          by = with_rights (bit_or had'.by.rights k.rights) had'.by;
          obtained = amplified had.by had'.by k had.obtained (fewer_has 3 c.rights had.by.rights had.fewer r) (same_entry s A c had ∙ old.1 ∙ ap Some (sym control)) had'.obtained kind;
          same_table = had'.same_table;
          same_index = had'.same_index;
          fewer = fewer_or d.rights had'.by.rights k.rights had'.fewer;
        })

    pub grows : (d : Descriptor) → Obtains u A d → Got d
    grows _ (in_context t c k d a i h) =
        let now = context_there u j t c i in
        elim (context_before t c i) [
          | inl old ↦
              let before = context_there s g t c old in
              old_slots t c (Object before.0) (Object now.0) k d before.1 now.1 h (λ b. in_context t c k d a old b)
          | inr (home, next) ↦
              let same : entry u t c ≡ entry u q (fresh s q) = rw (home, next) refl in
              object_slots now.0 k d (sym same ∙ now.1) (rw (home, next) at h)
        ]
    grows _ (in_shown e k d o r h) = let now = (obtained_holds u j A e o).1.1 in shown_grows e k d now.of now.is_there (grows e o) r h
    grows _ (amplified c d k o r is p e) =
        let now = (obtained_holds u j A d p).1.1 in
        control_grows c d k now.of (grows c o) r is (grows d p) now.is_there (rw now.is_there at e)

    -- the object that a source shows is the one that it names, or the one beneath
    object_of : (t i : ℕ) (x : Entry) (P : ℕ → ℕ → Type 0) → has_parts (entry s t i) ≡ true → entry s t i ≡ Some x →
        ((o : Storage) → entry s t i ≡ Some (Object o) → P t i) → ((r : Refinement) → entry s t i ≡ Some (Refined r) → P r.table r.index) → P (shown s t i).owner (shown s t i).object
    object_of t i (Object o) P parts is whole_is part_is = rw (object_shown s t i o is) (whole_is o is)
    object_of t i (Control k) P parts is whole_is part_is = let wrong : false ≡ true = rw is at parts in cc
    object_of t i (Refined r) P parts is whole_is part_is = let h = g.inside t i r is in rw (part_shown s t i r h.object is h.is_there) (part_is r is)

    -- what holds of the object that a part names holds of that of its source
    part_object : (d : Descriptor) (r : Refinement) (P : ℕ → ℕ → Type 0) → Got d → entry u d.table d.index ≡ Some (Refined r) →
        ((e : Descriptor) → Obtains s A e → Fewer d.rights e.rights → (o : Storage) → entry s e.table e.index ≡ Some (Object o) → P e.table e.index) →
        ((e : Descriptor) → Obtains s A e → Fewer d.rights e.rights → (p : Refinement) → entry s e.table e.index ≡ Some (Refined p) → P p.table p.index) → P r.table r.index
    part_object d r P (of_object o new home next) is of_whole of_part_of = let wrong = object_there o (Refined r) new (rw (home, next) at is) in cc
    part_object d r P (of_old had) is of_whole of_part_of =
        let old = had_there s g A d had in
        let same : Refined r ≡ old.0 = still d.table d.index old.0 (Refined r) old.1 is in
        of_part_of had.by had.obtained had.fewer r (same_entry s A d had ∙ old.1 ∙ ap Some (sym same))
    part_object d r P (of_part f byte bytes slot slots from parts inside new home next had) is of_whole of_part_of =
        let part_is = part_there f byte bytes slot slots from parts inside (Refined r) new (rw (home, next) at is) in
        let same = part_is.1 in
        let table_is : r.table ≡ (shown s f.table f.index).owner = cc in
        let index_is : r.index ≡ (shown s f.table f.index).object = cc in
        let e : entry s had.by.table had.by.index ≡ entry s f.table f.index = same_entry s A (with_rights d.rights f) had in
        let old = had_there s g A (with_rights d.rights f) had in
        let of : P (shown s f.table f.index).owner (shown s f.table f.index).object =
        object_of f.table f.index old.0 P parts old.1
        (λ o is. rw (← had.same_table, ← had.same_index) (of_whole had.by had.obtained had.fewer o (e ∙ is)))
        (λ p is. of_part_of had.by had.obtained had.fewer p (e ∙ is)) in
        rw (table_is, index_is) of

    pub reaches_grows : (t i : ℕ) → Reaches u A t i → (Reaches s A t i) ⊎ ((t ≡ q) × (i ≡ fresh s q))
    reaches_grows _ _ (open_context t c a i) =
        elim (context_before t c i) [
          | inl old ↦ inl (Reaches.open_context t c a old)
          | inr new ↦ inr new
        ]
    reaches_grows _ _ (Reaches.named_entry d o) = go (grows d o)
      where
        go : Got d → (Reaches s A d.table d.index) ⊎ ((d.table ≡ q) × (d.index ≡ fresh s q))
        go (of_old had) = inl (rw (← had.same_table, ← had.same_index) (Reaches.named_entry had.by had.obtained))
        go (of_part f byte bytes slot slots from parts inside new home next had) = inr (home, next)
        go (of_object o new home next) = inr (home, next)
    reaches_grows _ _ (beneath d r o is) =
        inl (part_object d r (Reaches s A) (grows d o) is (λ e p fewer x there. Reaches.named_entry e p) (λ e p fewer x there. beneath e x p there))

    pub alters_grows : (t i : ℕ) → Alters u A t i → (Alters s A t i) ⊎ ((t ≡ q) × (i ≡ fresh s q))
    alters_grows _ _ (open_context t c a i) =
        elim (context_before t c i) [
          | inl old ↦ inl (Alters.open_context t c a old)
          | inr new ↦ inr new
        ]
    alters_grows _ _ (written d o p w is) = go (grows d p)
      where
        go : Got d → (Alters s A d.table d.index) ⊎ ((d.table ≡ q) × (d.index ≡ fresh s q))
        go (of_old had) =
            let old = had_there s g A d had in
            let same : Object o ≡ old.0 = still d.table d.index old.0 (Object o) old.1 is in
            inl (rw (← had.same_table, ← had.same_index) (written had.by o had.obtained (fewer_has 1 d.rights had.by.rights had.fewer w) (same_entry s A d had ∙ old.1 ∙ ap Some (sym same))))
        go (of_part f byte bytes slot slots from parts inside new home next had) = inr (home, next)
        go (of_object o new home next) = inr (home, next)
    alters_grows _ _ (written_beneath d r o w is) =
        inl (part_object d r (Alters s A) (grows d o) is
        (λ e p fewer x there. written e x p (fewer_has 1 d.rights e.rights fewer w) there)
        (λ e p fewer x there. written_beneath e x p (fewer_has 1 d.rights e.rights fewer w) there))
