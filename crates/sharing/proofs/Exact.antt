-- The search finds exactly what a side obtains.
use Rattle.std.specs.Prelude.{if◌then◌else◌, nat_lt, replicate}
use Rattle.std.proofs.Common.{◌≡◌, ℕ, zero, suc, ◌/◌, ◌%◌, ◌<◌, ◌≤◌, true, false, [], length, Some, None, Option, bit_or, refl, sym, ◌∙◌, inl, inr, arith, get_or}
use Rattle.std.specs.List.{slice_get}
use Rattle.std.proofs.lemmas.Bool.{and_from, and_parts, both_ways, cases_Bool, cases_eq, cases_lt, lt-ltb, ltb-true}
use Rattle.std.proofs.lemmas.List.{get_or-replicate, get_or_past, length-replicate}
use Rattle.std.proofs.lemmas.Option.{same_Some, none-some, slice_get-get_or, slice_get_within}
use Rattle.rules.specs.State.{State, entry, has, kind_of, level, shown, stack}
use Rattle.rules.specs.declared.descriptor.Descriptor.{Descriptor}
use Rattle.rules.specs.declared.entry.Entry.{Entry}
use Rattle.rules.specs.declared.entry.Entry.TheVariants.{Object, Control, Refined}
use Rattle.rules.specs.declared.entry.TypeControl.{TypeControl}
use Rattle.rules.specs.declared.rights.Right.TheVariants.{Read, Type2}
use Rattle.isolation.specs.Reach.{HasSlot, Obtains, Side, amplified, in_context, in_shown}
use Rattle.store.specs.Orderly.{InTables}
use Rattle.sharing.specs.Reached.{AreRights, IsObtained, is_place, not_obtained, obtained_with, place}
use Rattle.sharing.specs.Sides.{side_of}
use Rattle.sharing.specs.Search.{added, at, followed, followed_by, found, gathered, leads, nothing_found, searched, tasks_taken}
use Rattle.sharing.specs.declared.gathering.Gathering.{Gathering}
use Rattle.sharing.specs.declared.side.Side.{Side as CodedSide}
use Rattle.sharing.proofs.Steps.{listed_first}
use Rattle.sharing.proofs.Taking.{leading_le}
use Rattle.sharing.proofs.Weights.{Within, has_either, has_none}
use Rattle.sharing.proofs.Finds.{Fine, FoundWith, Grows, Sourced, grows_twice, same_grows, still_found}
use Rattle.sharing.proofs.Folds.{of_code, Covers, InContexts, InSlots, InTasks, Took, at_place, get_of_in, obtained_there, place_index, place_low, place_table, tasks_took}
use Rattle.sharing.proofs.Follows.{IsFollowed, followed_fine, still_followed}

nowhere : (n : ℕ) → n < 576 → found nothing_found n ≡ None
nowhere n low = get_or-replicate 576 n None None low

no_rights : (kind : ℕ) → added nothing_found kind ≡ 0
no_rights kind =
    elim (cases_lt kind 256) [
      | inl low ↦ get_or-replicate 256 kind 0 0 low
      | inr high ↦ get_or_past (replicate 256 0) kind 0 (rw (length-replicate {A = ℕ} 256 0) high)
    ]

nothing_fine : (s : State) (A : Side) → Fine s A [] nothing_found
nothing_fine s A = record {
  listed = listed_first s;
  sourced = λ n rights low is. absurd (none-some rights (sym (nowhere n low) ∙ is));
  added_by = λ kind r h. absurd (has_none r (rw (no_rights kind) at h));
  wide = λ n e rights out low there is. absurd (none-some rights (sym (nowhere n low) ∙ is));
  led = λ n e rights low there is. absurd (none-some rights (sym (nowhere n low) ∙ is));
  lead = λ j n is. absurd (none-some n is);
}

-- the first of those that lead on were followed
record Searched (s : State) (A : Side) (g h : Gathering) (n : ℕ) : Type 0 where
  fine : Fine s A [] h
  grows : Grows g h
  follows : (j m : ℕ) → j < n → slice_get h.leads j ≡ Some m → IsFollowed s m h

module _ (s : State) (tables : InTables s) (small : (t i : ℕ) (k : TypeControl) → entry s t i ≡ Some (Control k) → k.kind < 256) where
  -- what was followed before is so when more was found
  followed_before : (A : Side) (g h i : Gathering) (n : ℕ) → Searched s A g h n → Grows h i → (j m : ℕ) → j < length h.leads → j < n → slice_get i.leads j ≡ Some m → IsFollowed s m i
  followed_before A g h i n b k j m inside less at_j =
      let l : ℕ = get_or h.leads j 0 in
      let is : slice_get h.leads j ≡ Some l = slice_get-get_or h.leads j 0 inside in
      let one : l ≡ m = same_Some l m (sym (k.leads j l is) ∙ at_j) in
      still_followed s h i k m (b.follows j m less (rw (← one) is))

  search_goes_on : (A : Side) (g : Gathering) → Fine s A [] g → (n : ℕ) → Searched s A g (searched s n g) n
  unfolding searched
  search_goes_on A g f zero = record { fine = f; grows = same_grows g; follows = λ j m less is. absurd (omega arith) }
  search_goes_on A g f (suc n) = go (searched s n g) (search_goes_on A g f n) (slice_get (searched s n g).leads n) refl
    where
      go : (h : Gathering) → Searched s A g h n → (x : Option ℕ) → slice_get h.leads n ≡ x → Searched s A g (followed s x h) (suc n)
      go h b None is = record {
        fine = b.fine;
        grows = b.grows;
        follows = λ j m less at_j.
            elim (cases_eq j n) [
              | inl same ↦ absurd (none-some m (sym is ∙ (rw same at at_j)))
              | inr other ↦ b.follows j m (omega arith) at_j
            ];
      }
      go h b (Some l) is =
          let i : Gathering = followed_by s l (at s l) h in
          let f' = followed_fine s tables A small h b.fine l (b.fine.lead n l is) in
          record {
            fine = f'.0.0;
            grows = grows_twice g h i b.grows f'.0.1;
            follows = λ j m less at_j.
                elim (cases_eq j n) [
                  | inl same ↦
                      let one : l ≡ m = same_Some l m (sym (f'.0.1.leads n l is) ∙ (rw same at at_j)) in
                      rw (← one) f'.1
                  | inr other ↦ followed_before A g h i n b f'.0.1 j m (omega (arith, slice_get_within h.leads n l is)) (omega arith) at_j
                ];
          }

  module _ (B : CodedSide) where
    after_tasks : Took s (side_of B) nothing_found (tasks_taken s B 9 nothing_found) (InTasks s B 9)
    after_tasks = tasks_took s tables B nothing_found (nothing_fine s (side_of B)) 9

    after_all : Searched s (side_of B) (tasks_taken s B 9 nothing_found) (gathered s B) 576
    unfolding gathered
    after_all = search_goes_on (side_of B) (tasks_taken s B 9 nothing_found) after_tasks.fine 576

    -- each entry that leads on was followed
    lead_followed : (n : ℕ) (e : Entry) (rights : ℕ) → at s n ≡ Some e → n < 576 → found (gathered s B) n ≡ Some rights → leads e rights ≡ true → IsFollowed s n (gathered s B)
    lead_followed n e rights is low was on =
        let j = after_all.fine.led n e rights low is was on in
        let inside : j.0 < length (gathered s B).leads = slice_get_within (gathered s B).leads j.0 n j.1 in
        let few : length (gathered s B).leads ≤ 576 = rw after_all.fine.listed.listed (leading_le s (gathered s B) 576) in
        after_all.follows j.0 n (omega arith) j.1

    -- in an open context
    of_context : (q c k : ℕ) (d : Descriptor) → side_of B q → (j : ℕ) → slice_get (stack s q) j ≡ Some c → HasSlot s (shown s q c) k d → Covers (gathered s B) d
    unfolding level
    of_context q c k d m j is slot =
        let slots : InSlots s (shown s q c) (shown s q c).slots d = record { at = k; low = slot.0; names = slot.1 } in
        let contexts : InContexts s q (level s q) d = record { number = j; low = slice_get_within (stack s q) j c is; context = c; is_open = is; slots = slots } in
        let task : InTasks s B 9 d = record { task = q; low = (tables.contexts q j c is).0; is_of = of_code B q m; contexts = contexts } in
        still_found (tasks_taken s B 9 nothing_found) (gathered s B) after_all.grows (place d.table d.index) d.rights (after_tasks.covers d task)

    followed_shows : (e d : Descriptor) (k : ℕ) (x : Entry) → entry s e.table e.index ≡ Some x → (f : Covers (gathered s B) e) → leads x f.all ≡ true → HasSlot s (shown s e.table e.index) k d → Covers (gathered s B) d
    followed_shows e d k x is f on slot =
        let inside = tables.entries e.table e.index x is in
        let follows : IsFollowed s (place e.table e.index) (gathered s B) = lead_followed (place e.table e.index) x f.all (at_place s tables e.table e.index x is) (place_low e.table e.index inside.0 inside.1) f.is_found on in
        follows.shows k d (rw (place_table e.table e.index inside.1, place_index e.table e.index inside.1) slot)

    -- in what is shown by an entry that was found
    of_shown : (e d : Descriptor) (k : ℕ) (x : Entry) → entry s e.table e.index ≡ Some x → Covers (gathered s B) e → has 1 e.rights ≡ true → HasSlot s (shown s e.table e.index) k d → Covers (gathered s B) d
    unfolding shown
    of_shown e d k (Control c) is f right slot = let none : k < 0 = rw is at slot.0 in absurd (omega arith)
    of_shown e d k (Object o) is f right slot = followed_shows e d k (Object o) is f (f.within Read right) slot
    of_shown e d k (Refined r) is f right slot = followed_shows e d k (Refined r) is f (f.within Read right) slot

    -- with the rights that a type control adds
    of_control : (c d : Descriptor) (k : TypeControl) (x : Entry) → entry s c.table c.index ≡ Some (Control k) → Covers (gathered s B) c → has 8 c.rights ≡ true → entry s d.table d.index ≡ Some x → kind_of x ≡ k.kind → Covers (gathered s B) d → FoundWith (gathered s B) (place d.table d.index) (bit_or d.rights k.rights)
    of_control c d k x is f right there same f' =
        let inside = tables.entries c.table c.index (Control k) is in
        let inside' = tables.entries d.table d.index x there in
        let at_c : at s (place c.table c.index) ≡ Some (Control k) = at_place s tables c.table c.index (Control k) is in
        let follows : IsFollowed s (place c.table c.index) (gathered s B) = lead_followed (place c.table c.index) (Control k) f.all at_c (place_low c.table c.index inside.0 inside.1) f.is_found (f.within Type2 right) in
        let wide : Within (added (gathered s B) (kind_of x)) f'.all = after_all.fine.wide (place d.table d.index) x f'.all (λ i. elim i [ ]) (place_low d.table d.index inside'.0 inside'.1) (at_place s tables d.table d.index x there) f'.is_found in
        record {
          all = f'.all;
          is_found = f'.is_found;
          within = λ r h.
              elim (has_either r d.rights k.rights h) [
                | inl old ↦ f'.within r old
                | inr new ↦ wide r (rw same (follows.adds k at_c r new))
              ];
        }

    -- all that is obtained is found
    covers_all : (d : Descriptor) → Obtains s (side_of B) d → Covers (gathered s B) d
    covers_all _ (in_context q c k d m h slot) = let j = get_of_in (stack s q) c h in of_context q c k d m j.0 j.1 slot
    covers_all _ (in_shown e k d h right slot) =
        let there = obtained_there s tables (side_of B) e h in
        of_shown e d k there.0 there.1 (covers_all e h) right slot
    covers_all _ (amplified c d k h right is h' same) =
        let there = obtained_there s tables (side_of B) d h' in
        of_control c d k there.0 is (covers_all c h) right there.1 (rw there.1 at same) (covers_all d h')

    covered_at : (t i : ℕ) (d : Descriptor) → Obtains s (side_of B) d → d.table ≡ t → d.index ≡ i → FoundWith (gathered s B) (place t i) d.rights
    covered_at t i d h a b = rw (← a, ← b) (covers_all d h)

    rights_there : (t i : ℕ) → t < 9 → i < 64 → (x : Option ℕ) → found (gathered s B) (place t i) ≡ x → AreRights s (side_of B) t i x
    rights_there t i low low' None is =
        not_obtained (λ o. let f = covered_at t i o.by o.obtained o.same_table o.same_index in absurd (none-some f.all (sym is ∙ f.is_found)))
    rights_there t i low low' (Some rights) is =
        let by : Sourced s (side_of B) (place t i) rights = after_all.fine.sourced (place t i) rights (place_low t i low low') is in
        let a : place t i / 64 ≡ t = place_table t i low' in
        let b : place t i % 64 ≡ i = place_index t i low' in
        obtained_with rights (rw (a, b) at by.obtained)
        (λ r. (
          λ h. rw (a, b) at (by.each r h),
          λ o.
              let f = covered_at t i o.by o.obtained o.same_table o.same_index in
              let same : f.all ≡ rights = same_Some f.all rights (sym f.is_found ∙ is) in
              rw (← same) (f.within r o.has_right),
        ))

    nowhere_else : (t i : ℕ) → is_place t i ≡ false → IsObtained s (side_of B) t i → ⊥
    nowhere_else t i off o =
        let there = obtained_there s tables (side_of B) o.by o.obtained in
        let there' : entry s t i ≡ Some there.0 = rw (← o.same_table, ← o.same_index) there.1 in
        let inside = tables.entries t i there.0 there' in
        both_ways (is_place t i) off (and_from (nat_lt t 9) (nat_lt i 64) (lt-ltb t 9 inside.0) (lt-ltb i 64 inside.1))

    -- what the search tells of an entry is so
    pub exact : (t i : ℕ) → AreRights s (side_of B) t i (if is_place t i then found (gathered s B) (place t i) else None)
    exact t i =
        elim (cases_Bool (is_place t i)) [
          | inl on ↦
              let low = and_parts (nat_lt t 9) (nat_lt i 64) on in
              rw on (rights_there t i (ltb-true t 9 low.0) (ltb-true i 64 low.1) (found (gathered s B) (place t i)) refl)
          | inr off ↦ rw off (not_obtained (nowhere_else t i off))
        ]
