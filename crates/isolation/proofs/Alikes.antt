-- A side of tasks has the same in states that match for it.
use Rattle.std.proofs.Common.{◌≡◌, ℕ, ◌+◌, ◌<◌, ◌≤◌, List, [], ◌∷◌, length, Some, None, Option, refl, sym, ap, ◌∙◌, arith}
use Rattle.bank.proofs.WordLaws.{same_word}
use Rattle.rules.specs.declared.entry.Entry.{Entry}
use Rattle.rules.specs.declared.entry.Entry.TheVariants.{Object, Control, Refined}
use Rattle.rules.specs.declared.entry.Storage.{Storage}
use Rattle.rules.specs.declared.descriptor.Descriptor.{Descriptor}
use Rattle.rules.specs.declared.shown.Shown.{Shown}
use Rattle.rules.specs.State.{State, entry, held, level, named, part, shown, shown_by, slot_at, stack, table}
use Rattle.soundness.specs.Sound.{AreContexts, In, IsContext, NullOrLive, Sound, below, here, names, null, slot_of}
use Rattle.rules.proofs.Words.{named_is, zero_names_nothing}
use Rattle.isolation.specs.Reach.{Alters, HasSlot, Obtains, Reaches, Side, amplified, beneath, in_context, in_shown, named_entry, only, written, written_beneath}
use Rattle.isolation.specs.Share.{Alike}
use Rattle.isolation.proofs.Matches.{Matches}
use Rattle.isolation.proofs.Sides.{Seat, context_seat, context_there, shown_seat, slot_taken}

-- a slot that is shown holds 0 or the word of an entry that is there
slot_holds : (s : State) (g : Sound s) (v : Shown) (k : ℕ) (o : Storage) → entry s v.owner v.object ≡ Some (Object o) → v.base ≡ o.base → v.slot + k < o.slots → NullOrLive s v.owner o.level (held s (record { by = v; at = k }))
unfolding held
slot_holds s g v k o is base less =
    let same : slot_at v k ≡ slot_of o (v.slot + k) = rw base refl in
    rw same (g.slots v.owner v.object o is (v.slot + k) less)

-- the word of a slot names the same in two sound states
same_names : (s u : State) (t n t' n' w : ℕ) → NullOrLive s t n w → NullOrLive u t' n' w → named s w ≡ named u w
same_names s u t n t' n' w (null e) x = rw e (zero_names_nothing s ∙ sym (zero_names_nothing u))
same_names s u t n t' n' w (names d is may) (null e) = rw e (zero_names_nothing s ∙ sym (zero_names_nothing u))
same_names s u t n t' n' w (names d is may) (names d' is' may') =
    let same : d ≡ d' = (named_is s w d is).0 ∙ sym (named_is u w d' is').0 in
    is ∙ (rw same (sym is'))

module _ (A : Side) (s u : State) (m : Matches A s u) (g : Sound s) (j : Sound u) where
  -- a slot of what is reached holds the same word, and it names the same
  same_held : (v : Shown) (k : ℕ) → Seat s A v → k < v.slots → held s (record { by = v; at = k }) ≡ held u (record { by = v; at = k })
  unfolding held
  same_held v k h less = same_word s.bytes u.bytes (slot_at v k) (slot_at v k) (λ i low. m.same_bytes v.owner v.object h.object (slot_at v k + i) h.reached h.is_there (slot_taken s g A v h k i less low))

  pub same_named : (v : Shown) (k : ℕ) → Seat s A v → k < v.slots → named s (held s (record { by = v; at = k })) ≡ named u (held u (record { by = v; at = k }))
  same_named v k h less =
      let there : entry u v.owner v.object ≡ Some (Object h.object) = sym (m.same_entries v.owner v.object h.reached) ∙ h.is_there in
      rw (← same_held v k h less)
      (same_names s u v.owner h.object.level v.owner h.object.level (held s (record { by = v; at = k }))
      (slot_holds s g v k h.object h.is_there h.base_is (omega (arith, h.slots_inside)))
      (rw (same_held v k h less) (slot_holds u j v k h.object there h.base_is (omega (arith, h.slots_inside)))))

  -- an open context and an obtained descriptor show the same
  pub same_context : (q c : ℕ) → A q → In c (stack s q) → shown s q c ≡ shown u q c
  unfolding shown
  same_context q c i h =
      let x = context_there s g q c h in
      let same : entry u q c ≡ Some (Object x.0) = sym (m.same_entries q c (Reaches.open_context q c i h)) ∙ x.1 in
      rw (x.1, same)

  pub same_shown : (d : Descriptor) → Obtains s A d → shown s d.table d.index ≡ shown u d.table d.index
  unfolding shown
  same_shown d h = rw (← m.same_entries d.table d.index (named_entry d h)) (go (entry s d.table d.index) refl)
    where
      go : (x : Option Entry) → entry s d.table d.index ≡ x → shown_by s d.table d.index x ≡ shown_by u d.table d.index x
      go (Some (Object o)) is = refl
      go (Some (Control c)) is = refl
      go (Some (Refined r)) is = ap (part r) (m.same_entries r.table r.index (beneath d r h is))
      go None is = refl

  -- the side obtains the same
  obtains_there : (d : Descriptor) → Obtains s A d → Obtains u A d
  obtains_there _ (in_context q c k d i h slot) =
      let seat = context_seat s g A q c i h in
      in_context q c k d i (rw (m.same_stacks q i) at h) (rw (← same_context q c i h) (slot.0, sym (same_named (shown s q c) k seat slot.0) ∙ slot.1))
  obtains_there _ (in_shown e k d h right slot) =
      let seat = shown_seat s g A e h (omega (arith, slot.0)) in
      in_shown e k d (obtains_there e h) right (rw (← same_shown e h) (slot.0, sym (same_named (shown s e.table e.index) k seat slot.0) ∙ slot.1))
  obtains_there _ (amplified c d k h right is h' same) =
      amplified c d k (obtains_there c h) right (sym (m.same_entries c.table c.index (named_entry c h)) ∙ is) (obtains_there d h') (rw (← m.same_entries d.table d.index (named_entry d h')) same)

  obtains_back : (d : Descriptor) → Obtains u A d → Obtains s A d
  obtains_back _ (in_context q c k d i h slot) =
      let h' : In c (stack s q) = rw (m.same_stacks q i) h in
      let slot' : HasSlot u (shown s q c) k d = rw (same_context q c i h') slot in
      in_context q c k d i h' (slot'.0, same_named (shown s q c) k (context_seat s g A q c i h') slot'.0 ∙ slot'.1)
  obtains_back _ (in_shown e k d h right slot) =
      let h' = obtains_back e h in
      let slot' : HasSlot u (shown s e.table e.index) k d = rw (same_shown e h') slot in
      in_shown e k d h' right (slot'.0, same_named (shown s e.table e.index) k (shown_seat s g A e h' (omega (arith, slot'.0))) slot'.0 ∙ slot'.1)
  obtains_back _ (amplified c d k h right is h' same) =
      let x = obtains_back c h in
      let y = obtains_back d h' in
      amplified c d k x right (m.same_entries c.table c.index (named_entry c x) ∙ is) y (rw (m.same_entries d.table d.index (named_entry d y)) same)

  -- reaches the same
  reaches_there : (t i : ℕ) → Reaches s A t i → Reaches u A t i
  reaches_there t i (Reaches.open_context q c x h) = Reaches.open_context q c x (rw (m.same_stacks q x) at h)
  reaches_there t i (named_entry d h) = named_entry d (obtains_there d h)
  reaches_there t i (beneath d r h is) = beneath d r (obtains_there d h) (sym (m.same_entries d.table d.index (named_entry d h)) ∙ is)

  pub reaches_back : (t i : ℕ) → Reaches u A t i → Reaches s A t i
  reaches_back t i (Reaches.open_context q c x h) = Reaches.open_context q c x (rw (m.same_stacks q x) h)
  reaches_back t i (named_entry d h) = named_entry d (obtains_back d h)
  reaches_back t i (beneath d r h is) = let h' = obtains_back d h in beneath d r h' (m.same_entries d.table d.index (named_entry d h') ∙ is)

  -- and alters the same
  pub alters_back : (t i : ℕ) → Alters u A t i → Alters s A t i
  alters_back t i (Alters.open_context q c x h) = Alters.open_context q c x (rw (m.same_stacks q x) h)
  alters_back t i (written d o h right is) = let h' = obtains_back d h in written d o h' right (m.same_entries d.table d.index (named_entry d h') ∙ is)
  alters_back t i (written_beneath d r h right is) = let h' = obtains_back d h in written_beneath d r h' right (m.same_entries d.table d.index (named_entry d h') ∙ is)

  -- so the states match the other way round
  pub matches_sym : Matches A u s
  matches_sym =
      record {
        same_stacks = λ q x. sym (m.same_stacks q x);
        same_entries = λ t i r. sym (m.same_entries t i (reaches_back t i r));
        same_bytes = λ t i o a r is takes. let r' = reaches_back t i r in sym (m.same_bytes t i o a r' (m.same_entries t i r' ∙ is) takes);
      }

  -- and on to a third
  pub matches_trans : (v : State) → Matches A u v → Matches A s v
  matches_trans v n =
      record {
        same_stacks = λ q x. m.same_stacks q x ∙ n.same_stacks q x;
        same_entries = λ t i r. m.same_entries t i r ∙ n.same_entries t i (reaches_there t i r);
        same_bytes = λ t i o a r is takes. m.same_bytes t i o a r is takes ∙ n.same_bytes t i o a (reaches_there t i r) (sym (m.same_entries t i r) ∙ is) takes;
      }

pub matches_refl : (A : Side) (s : State) → Matches A s s
matches_refl A s = record { same_stacks = λ q x. refl; same_entries = λ t i r. refl; same_bytes = λ t i o a r is takes. refl }

-- entry c of table q is an object of level n
abbrev LevelAt : State → ℕ → ℕ → ℕ → Type 0
LevelAt s q n c = (o : Storage) × ((entry s q c ≡ Some (Object o)) × (o.level ≡ n))

module _ (s : State) (q : ℕ) where
  context_at : (n c : ℕ) → IsContext s q n c → LevelAt s q n c
  context_at n c x = (x.object, (x.is_there, x.is_level))

  one_level : (n k c : ℕ) → LevelAt s q n c → LevelAt s q k c → n ≡ k
  one_level n k c x y = let e = x.1.0 in let e' = y.1.0 in let same : x.0 ≡ y.0 = cc in sym x.1.1 ∙ (rw same y.1.1)

  -- levels fall along a stack, so no two contexts on it have one level
  no_deeper : (n c : ℕ) (cs : List ℕ) → AreContexts s q cs → In c cs → LevelAt s q n c → n ≤ length cs
  no_deeper n c [] are i at = elim i [ ]
  no_deeper n _ (c ∷ cs) are here at = let e = one_level n (length cs + 1) c at (context_at (length cs + 1) c are.0) in omega arith
  no_deeper n c (b ∷ cs) are (below i) at = let less = no_deeper n c cs are.1 i at in omega arith

  only_one : (n c d : ℕ) (cs : List ℕ) → AreContexts s q cs → In c cs → In d cs → LevelAt s q n c → LevelAt s q n d → c ≡ d
  only_one n c d [] are i k at at' = elim i [ ]
  only_one n _ _ (c ∷ cs) are here here at at' = refl
  only_one n _ d (c ∷ cs) are here (below k) at at' =
      let e = one_level n (length cs + 1) c at (context_at (length cs + 1) c are.0) in
      let less = no_deeper n d cs are.1 k at' in
      absurd (omega arith)
  only_one n c _ (d ∷ cs) are (below i) here at at' =
      let e = one_level n (length cs + 1) d at' (context_at (length cs + 1) d are.0) in
      let less = no_deeper n c cs are.1 i at in
      absurd (omega arith)
  only_one n c d (b ∷ cs) are (below i) (below k) at at' = only_one n c d cs are.1 i k at at'

-- so the table and the level of a task determine its stack
module _ (s u : State) (q : ℕ) (g : Sound s) (j : Sound u) (same : table s q ≡ table u q) where
  same_entry : (i : ℕ) → entry s q i ≡ entry u q i
  unfolding entry
  same_entry i = rw same

  same_contexts : (cs ds : List ℕ) → AreContexts s q cs → AreContexts u q ds → length cs ≡ length ds → cs ≡ ds
  same_contexts [] [] are are' long = refl
  same_contexts [] (d ∷ ds) are are' long = absurd (omega arith)
  same_contexts (c ∷ cs) [] are are' long = absurd (omega arith)
  same_contexts (c ∷ cs) (d ∷ ds) are are' long =
      let rest : cs ≡ ds = same_contexts cs ds are.1 are'.1 (omega arith) in
      let x = are.0 in
      let y = are'.0 in
      let there : entry s q d ≡ Some (Object y.object) = same_entry d ∙ y.is_there in
      let i : In c (stack s q) = g.no_others q c (Object x.object) x.is_there x.is_context in
      let k : In d (stack s q) = g.no_others q d (Object y.object) there y.is_context in
      let first : c ≡ d = only_one s q (length cs + 1) c d (stack s q) (g.contexts q) i k (context_at s q (length cs + 1) c x) (y.object, (there, rw rest y.is_level)) in
      rw (first, rest)

  pub same_stack : level s q ≡ level u q → stack s q ≡ stack u q
  unfolding level
  same_stack long = same_contexts (stack s q) (stack u q) (g.contexts q) (j.contexts q) long

-- states that are alike for a task match for it
pub alike_matches : (P : ℕ) (s u : State) → Sound s → Sound u → Alike P s u → Matches (only P) s u
alike_matches P s u g j a =
    record {
      same_stacks = λ q is. rw is (same_stack s u P g j a.same_table a.same_level);
      same_entries = a.same_entries;
      same_bytes = a.same_bytes;
    }

-- and back
pub matches_alike : (P : ℕ) (s u : State) → Sound s → Sound u → Matches (only P) s u → level s P ≡ level u P → table s P ≡ table u P → Alike P s u
matches_alike P s u g j m same same' =
    record {
      same_level = same;
      same_table = same';
      same_reach = reaches_there (only P) s u m g j;
      same_reach_back = reaches_back (only P) s u m g j;
      same_entries = m.same_entries;
      same_bytes = m.same_bytes;
    }
