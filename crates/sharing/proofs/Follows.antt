-- What the search takes up of each entry that leads on.
use Rattle.std.specs.Prelude.{◌==◌}
use Rattle.std.proofs.Common.{◌≡◌, ◌≢◌, ℕ, zero, suc, ◌+◌, ◌-◌, ◌/◌, ◌%◌, ◌<◌, ◌≤◌, true, List, [], ◌∷◌, length, Some, None, Option, bit_or, refl, sym, ◌∙◌, inl, inr, arith}
use Rattle.std.proofs.lemmas.Bool.{cases_Bool, cases_eq, eqb-true, eq-eqb}
use Rattle.std.proofs.lemmas.List.{get_or-set_same, get_or-set_other}
use Rattle.std.proofs.lemmas.Option.{same_Some, none-some}
use Rattle.rules.specs.Code.{weight}
use Rattle.rules.specs.State.{State, entry, has, kind_of, shown}
use Rattle.rules.specs.declared.descriptor.Descriptor.{Descriptor}
use Rattle.rules.specs.declared.entry.Entry.{Entry}
use Rattle.rules.specs.declared.entry.Entry.TheVariants.{Object, Control, Refined}
use Rattle.rules.specs.declared.entry.TypeControl.{TypeControl}
use Rattle.rules.specs.declared.rights.Right.{Right}
use Rattle.rules.specs.declared.rights.Right.TheVariants.{Read, Type2}
use Rattle.soundness.specs.Sound.{In, here, below}
use Rattle.isolation.specs.Reach.{HasSlot, Side, in_shown}
use Rattle.store.specs.Orderly.{InTables}
use Rattle.sharing.specs.Search.{added, all_taken, all_widened, amplified, at, entry_widened, followed_by, found, is_of, last_of, with_added}
use Rattle.sharing.specs.declared.gathering.Gathering.{Gathering}
use Rattle.sharing.proofs.Steps.{listed_added}
use Rattle.sharing.proofs.Weights.{Within, has_either, has_left, has_none, has_right}
use Rattle.sharing.proofs.Finds.{Fine, Grows, IsAdded, IsLead, Sourced, grows_twice, same_grows, still_found, taken_fine, taken_grows}
use Rattle.sharing.proofs.Folds.{Covers, InSlots, Took, at_low, slots_took}

-- the entry at a place was followed: what its slots hold was found, or the rights that it adds are
-- added
pub record IsFollowed (s : State) (n : ℕ) (g : Gathering) : Type 0 where
  pub shows : (k : ℕ) (d : Descriptor) → HasSlot s (shown s (n / 64) (n % 64)) k d → Covers g d
  pub adds : (k : TypeControl) → at s n ≡ Some (Control k) → Within k.rights (added g k.kind)

pub still_followed : (s : State) (g h : Gathering) → Grows g h → (n : ℕ) → IsFollowed s n g → IsFollowed s n h
still_followed s g h m n f = record {
  shows = λ k d slot. still_found g h m _ d.rights (f.shows k d slot);
  adds = λ k is r e. m.types k.kind r (f.adds k is r e);
}

tail_in : (m n : ℕ) (ns : List ℕ) → m ≢ n → In m (n ∷ ns) → In m ns
tail_in m _ ns other here = absurd (other refl)
tail_in m n ns other (below i) = i

-- the list of the places of a type is whole
pub is_listed : (s : State) (n : ℕ) (e : Entry) (kind m : ℕ) → n < 576 → 576 ≤ n + m → at s n ≡ Some e → kind_of e ≡ kind → In n (last_of s kind m)
unfolding last_of
is_listed s n e kind zero low far is same = absurd (omega arith)
is_listed s n e kind (suc m) low far is same =
    elim (cases_eq (576 - suc m) n) [
      | inl mine ↦
          let test : (kind_of e == kind) ≡ true = eq-eqb (kind_of e) kind same in
          rw (mine, is, test) here
      | inr other ↦
          let rest : In n (last_of s kind m) = is_listed s n e kind m low (omega (arith, other)) is same in
          elim (cases_Bool (is_of (at s (576 - suc m)) kind)) [
            | inl on ↦ rw on (below rest)
            | inr off ↦ rw off rest
          ]
    ]

-- rights added to a type
module _ (kind v : ℕ) (g : Gathering) where
  added_same : length g.added ≡ 256 → kind < 256 → added (with_added kind v g) kind ≡ v
  added_same types low = get_or-set_same g.added kind v 0 (omega arith)

  added_other : (k : ℕ) → k ≢ kind → added (with_added kind v g) k ≡ added g k
  added_other k other = get_or-set_other g.added kind k v 0 other

module _ (s : State) (tables : InTables s) (A : Side) where
  -- the rights that are added to its type are taken up for an entry
  one_widened : (n : ℕ) (ns : List ℕ) (g : Gathering) → Fine s A (n ∷ ns) g → (x : Option Entry) (y : Option ℕ) → at s n ≡ x → found g n ≡ y → Fine s A ns (entry_widened n x y g) × Grows g (entry_widened n x y g)
  one_widened n ns g f x y is was = go x y is was
    where
      unless : ((e : Entry) (rights : ℕ) → at s n ≡ Some e → found g n ≡ Some rights → ⊥) → Fine s A ns g
      unless never = record {
        listed = f.listed;
        sourced = f.sourced;
        added_by = f.added_by;
        wide = λ m e rights out low is' was'.
            elim (cases_eq m n) [
              | inl same ↦ absurd (never e rights (rw same at is') (rw same at was'))
              | inr other ↦ f.wide m e rights (λ i. out (tail_in m n ns other i)) low is' was'
            ];
        led = f.led;
        lead = f.lead;
      }

      go : (x : Option Entry) (y : Option ℕ) → at s n ≡ x → found g n ≡ y → Fine s A ns (entry_widened n x y g) × Grows g (entry_widened n x y g)
      go None y is was = (unless (λ e rights is' was'. none-some e (sym is ∙ is')), same_grows g)
      go (Some e) None is was = (unless (λ e' rights is' was'. none-some rights (sym was ∙ was')), same_grows g)
      go (Some e) (Some rights) is was =
          let low : n < 576 = at_low s tables n e is in
          let by : Sourced s A n 0 = record { obtained = (f.sourced n rights low was).obtained; each = λ r h. absurd (has_none r h) } in
          (taken_fine s A (n ∷ ns) ns g f n e 0 low is by (λ m other i. tail_in m n ns other i), taken_grows n e 0 g f.listed.places low)

  all_widened_fine : (ns : List ℕ) (g : Gathering) → Fine s A ns g → Fine s A [] (all_widened s ns g) × Grows g (all_widened s ns g)
  unfolding all_widened
  all_widened_fine [] g f = (f, same_grows g)
  all_widened_fine (n ∷ ns) g f =
      let h : Gathering = entry_widened n (at s n) (found g n) g in
      let one : Fine s A ns h × Grows g h = one_widened n ns g f (at s n) (found g n) refl refl in
      let rest : Fine s A [] (all_widened s ns h) × Grows h (all_widened s ns h) = all_widened_fine ns h one.0 in
      (rest.0, grows_twice g h (all_widened s ns h) one.1 rest.1)

  -- an obtained type control adds its rights
  module _ (g : Gathering) (f : Fine s A [] g) (k : TypeControl) (small : k.kind < 256) (by : (r : Right) → has (weight r) k.rights ≡ true → IsAdded s A k.kind r) where
    abbrev with_more : Gathering
    with_more = with_added k.kind (bit_or (added g k.kind) k.rights) g

    with_more_grows : Grows g with_more
    with_more_grows = record {
      rights = λ n rights e. record { all = rights; is_found = e; within = λ r h. h };
      types = λ kind r h.
          elim (cases_eq kind k.kind) [
            | inl same ↦ rw (same, added_same k.kind (bit_or (added g k.kind) k.rights) g f.listed.types small) (has_left (added g k.kind) k.rights r (rw same at h))
            | inr other ↦ rw (added_other k.kind (bit_or (added g k.kind) k.rights) g kind other) h
          ];
      leads = λ j n e. e;
    }

    with_more_fine : Fine s A (last_of s k.kind 576) with_more
    with_more_fine = record {
      listed = listed_added s g k.kind (bit_or (added g k.kind) k.rights) f.listed;
      sourced = f.sourced;
      added_by = λ kind r h.
          elim (cases_eq kind k.kind) [
            | inl same ↦
                let h' : has (weight r) (bit_or (added g k.kind) k.rights) ≡ true = rw (same, added_same k.kind (bit_or (added g k.kind) k.rights) g f.listed.types small) at h in
                rw same
                (elim (has_either r (added g k.kind) k.rights h') [
                  | inl old ↦ f.added_by k.kind r old
                  | inr new ↦ by r new
                ])
            | inr other ↦ f.added_by kind r (rw (added_other k.kind (bit_or (added g k.kind) k.rights) g kind other) at h)
          ];
      wide = λ n e rights out low is was r h.
          elim (cases_eq (kind_of e) k.kind) [
            | inl same ↦ absurd (out (is_listed s n e k.kind 576 low (omega arith) is same))
            | inr other ↦ f.wide n e rights (λ i. elim i [ ]) low is was r (rw (added_other k.kind (bit_or (added g k.kind) k.rights) g (kind_of e) other) at h)
          ];
      led = f.led;
      lead = λ j n e. let l = f.lead j n e in record { low = l.low; of = l.of; is_there = l.is_there; rights = l.rights; is_found = l.is_found; may_lead = l.may_lead };
    }

    amplified_fine : Fine s A [] (amplified s k g) × (Grows g (amplified s k g) × Within k.rights (added (amplified s k g) k.kind))
    amplified_fine =
        elim (cases_Bool (bit_or (added g k.kind) k.rights == added g k.kind)) [
          | inl on ↦
              let same : bit_or (added g k.kind) k.rights ≡ added g k.kind = eqb-true (bit_or (added g k.kind) k.rights) (added g k.kind) on in
              rw on
              (f, (same_grows g, λ r h. let both : has (weight r) (bit_or (added g k.kind) k.rights) ≡ true = has_right (added g k.kind) k.rights r h in rw same at both))
          | inr off ↦
              let w = all_widened_fine (last_of s k.kind 576) with_more with_more_fine in
              rw off (
                w.0,
                (
                  grows_twice g with_more (all_widened s (last_of s k.kind 576) with_more) with_more_grows w.1,
                  λ r h. w.1.types k.kind r (rw (added_same k.kind (bit_or (added g k.kind) k.rights) g f.listed.types small) (has_right (added g k.kind) k.rights r h)),
                ),
              )
        ]

  module _ (small : (t i : ℕ) (k : TypeControl) → entry s t i ≡ Some (Control k) → k.kind < 256) where
    -- an entry that leads on is followed
    pub followed_fine : (g : Gathering) → Fine s A [] g → (n : ℕ) → IsLead s g n → (Fine s A [] (followed_by s n (at s n) g) × Grows g (followed_by s n (at s n) g)) × IsFollowed s n (followed_by s n (at s n) g)
    unfolding shown
    followed_fine g f n l = go (at s n) refl
      where
        slots : (e : Entry) → at s n ≡ Some e → has 1 l.rights ≡ true → ((k : TypeControl) → e ≡ Control k → ⊥) → (Fine s A [] (all_taken s (n / 64) (n % 64) g) × Grows g (all_taken s (n / 64) (n % 64) g)) × IsFollowed s n (all_taken s (n / 64) (n % 64) g)
        slots e is right other =
            let w = (f.sourced n l.rights l.low l.is_found).each Read right in
            let took : Took s A g (all_taken s (n / 64) (n % 64) g) (InSlots s (shown s (n / 64) (n % 64)) (shown s (n / 64) (n % 64)).slots) =
            slots_took s tables A g f (shown s (n / 64) (n % 64)) (shown s (n / 64) (n % 64)).slots
            (λ d i. in_shown w.by i.at d w.obtained w.has_right (rw (w.same_table, w.same_index) (i.low, i.names))) in (
              (took.fine, took.grows),
              record {
                shows = λ k d slot. took.covers d (record { at = k; low = slot.0; names = slot.1 });
                adds = λ k is'. absurd (other k (same_Some e (Control k) (sym is ∙ is')));
              },
            )

        go : (x : Option Entry) → at s n ≡ x → (Fine s A [] (followed_by s n x g) × Grows g (followed_by s n x g)) × IsFollowed s n (followed_by s n x g)
        go None is = absurd (none-some l.of (sym is ∙ l.is_there))
        go (Some (Object o)) is =
            let same : l.of ≡ Object o = same_Some l.of (Object o) (sym l.is_there ∙ is) in
            slots (Object o) is (rw same at l.may_lead) (λ k e. cc)
        go (Some (Refined r)) is =
            let same : l.of ≡ Refined r = same_Some l.of (Refined r) (sym l.is_there ∙ is) in
            slots (Refined r) is (rw same at l.may_lead) (λ k e. cc)
        go (Some (Control k)) is =
            let same : l.of ≡ Control k = same_Some l.of (Control k) (sym l.is_there ∙ is) in
            let w = (f.sourced n l.rights l.low l.is_found).each Type2 (rw same at l.may_lead) in
            let there : entry s w.by.table w.by.index ≡ Some (Control k) = rw (w.same_table, w.same_index) is in
            let a = amplified_fine g f k (small (n / 64) (n % 64) k is) (λ r h. record { by = w.by; obtained = w.obtained; may_add = w.has_right; control = k; is_control = there; same_kind = refl; adds = h }) in (
              (a.0, a.1.0),
              record {
                shows = λ j d slot. let none : j < 0 = rw is at slot.0 in absurd (omega arith);
                adds = λ k' is'.
                    let same' : Control k ≡ Control k' = same_Some (Control k) (Control k') (sym is ∙ is') in
                    let one : k ≡ k' = cc in
                    rw (← one) a.1.1;
              },
            )
