-- What stays true of what has been found as more is taken up, and what grows.
use Rattle.std.specs.Prelude.{not}
use Rattle.std.proofs.Common.{◌≡◌, ◌≢◌, ℕ, ◌/◌, ◌%◌, ◌<◌, true, false, List, [], ◌∷◌, ◌++◌, length, Some, None, Option, bit_or, refl, sym, ◌∙◌, inl, inr}
use Rattle.std.specs.List.{slice_get}
use Rattle.std.proofs.lemmas.Bool.{and_parts, and_cases, both_ways, cases_Bool, cases_eq, cond-true, cond-false, not-false}
use Rattle.std.proofs.lemmas.Option.{same_Some, slice_get_within}
use Rattle.rules.proofs.Entries.{slice_get_append, slice_get_end, slice_get_added}
use Rattle.rules.specs.Code.{weight}
use Rattle.rules.specs.State.{State, entry, has, kind_of, type2}
use Rattle.rules.specs.Operators.{with_rights}
use Rattle.rules.specs.Tests.{kind_by}
use Rattle.rules.specs.declared.descriptor.Descriptor.{Descriptor}
use Rattle.rules.specs.declared.entry.Entry.{Entry}
use Rattle.rules.specs.declared.entry.Entry.TheVariants.{Control}
use Rattle.rules.specs.declared.entry.TypeControl.{TypeControl}
use Rattle.rules.specs.declared.rights.Right.{Right}
use Rattle.soundness.specs.Sound.{In}
use Rattle.isolation.specs.Reach.{Obtains, Side, amplified}
use Rattle.sharing.specs.Reached.{IsObtained, IsObtainedWith}
use Rattle.sharing.specs.Search.{IsListed, added, at, found, key, leads, starts, sum_of, taken, widened}
use Rattle.sharing.specs.declared.gathering.Gathering.{Gathering}
use Rattle.sharing.proofs.Taking.{found_other, found_same, has_zero, listed_taken}
use Rattle.sharing.proofs.Weights.{Within, has_either, has_left, has_none, has_right}

-- an entry is obtained with these rights
pub record Sourced (s : State) (A : Side) (n rights : ℕ) : Type 0 where
  pub obtained : IsObtained s A (n / 64) (n % 64)
  pub each : (r : Right) → has (weight r) rights ≡ true → IsObtainedWith s A (n / 64) (n % 64) (weight r)

-- an obtained type control adds a right to a type
pub record IsAdded (s : State) (A : Side) (kind : ℕ) (r : Right) : Type 0 where
  pub by : Descriptor
  pub obtained : Obtains s A by
  pub may_add : has type2 by.rights ≡ true
  pub control : TypeControl
  pub is_control : entry s by.table by.index ≡ Some (Control control)
  pub same_kind : control.kind ≡ kind
  pub adds : has (weight r) control.rights ≡ true

-- an entry leads on, as it was found
pub record IsLead (s : State) (g : Gathering) (n : ℕ) : Type 0 where
  pub low : n < 576
  pub of : Entry
  pub is_there : at s n ≡ Some of
  pub rights : ℕ
  pub is_found : found g n ≡ Some rights
  pub may_lead : leads of rights ≡ true

-- what holds of what has been found, if the rights added to its type are still to be taken up for
-- some
pub record Fine (s : State) (A : Side) (later : List ℕ) (g : Gathering) : Type 0 where
  pub listed : IsListed s g
  pub sourced : (n rights : ℕ) → n < 576 → found g n ≡ Some rights → Sourced s A n rights
  pub added_by : (kind : ℕ) (r : Right) → has (weight r) (added g kind) ≡ true → IsAdded s A kind r
  pub wide : (n : ℕ) (e : Entry) (rights : ℕ) → (In n later → ⊥) → n < 576 → at s n ≡ Some e → found g n ≡ Some rights → Within (added g (kind_of e)) rights
  pub led : (n : ℕ) (e : Entry) (rights : ℕ) → n < 576 → at s n ≡ Some e → found g n ≡ Some rights → leads e rights ≡ true → (j : ℕ) × (slice_get g.leads j ≡ Some n)
  pub lead : (j n : ℕ) → slice_get g.leads j ≡ Some n → IsLead s g n

-- an entry is found with these rights at least
pub record FoundWith (g : Gathering) (n rights : ℕ) : Type 0 where
  pub all : ℕ
  pub is_found : found g n ≡ Some all
  pub within : Within rights all

-- nothing that was found is lost
pub record Grows (g h : Gathering) : Type 0 where
  pub rights : (n rights : ℕ) → found g n ≡ Some rights → FoundWith h n rights
  pub types : (kind : ℕ) → Within (added g kind) (added h kind)
  pub leads : (j n : ℕ) → slice_get g.leads j ≡ Some n → slice_get h.leads j ≡ Some n

pub same_grows : (g : Gathering) → Grows g g
same_grows g = record {
  rights = λ n rights e. record { all = rights; is_found = e; within = λ r h. h };
  types = λ kind r h. h;
  leads = λ j n e. e;
}

pub still_found : (g h : Gathering) → Grows g h → (n rights : ℕ) → FoundWith g n rights → FoundWith h n rights
still_found g h m n rights f =
    let k = m.rights n f.all f.is_found in
    record { all = k.all; is_found = k.is_found; within = λ r e. k.within r (f.within r e) }

pub grows_twice : (g h i : Gathering) → Grows g h → Grows h i → Grows g i
grows_twice g h i m k = record {
  rights = λ n rights e. still_found h i k n rights (m.rights n rights e);
  types = λ kind r e. k.types kind r (m.types kind r e);
  leads = λ j n e. k.leads j n (m.leads j n e);
}

pub still_leads : (s : State) (g h : Gathering) → Grows g h → (n : ℕ) → IsLead s g n → IsLead s h n
still_leads s g h m n l =
    let k = m.rights n l.rights l.is_found in
    record { low = l.low; of = l.of; is_there = l.is_there; rights = k.all; is_found = k.is_found; may_lead = k.within (key l.of) l.may_lead }

-- nothing leads on with no right
no_lead : (e : Entry) → leads e 0 ≡ false
no_lead e = has_zero (key e)

-- one entry is taken up
module _ (n : ℕ) (e : Entry) (rights : ℕ) (g : Gathering) where
  same_types : (taken n e rights g).added ≡ g.added
  unfolding taken
  same_types = refl

  leads_if : starts g n e rights ≡ true → (taken n e rights g).leads ≡ g.leads ++ n ∷ []
  unfolding taken
  leads_if on = cond-true (starts g n e rights) (g.leads ++ n ∷ []) g.leads on

  leads_unless : starts g n e rights ≡ false → (taken n e rights g).leads ≡ g.leads
  unfolding taken
  leads_unless off = cond-false (starts g n e rights) (g.leads ++ n ∷ []) g.leads off

  leads_grow : (j m : ℕ) → slice_get g.leads j ≡ Some m → slice_get (taken n e rights g).leads j ≡ Some m
  leads_grow j m is =
      elim (cases_Bool (starts g n e rights)) [
        | inl on ↦ rw (leads_if on, slice_get_append g.leads n j (slice_get_within g.leads j m is)) is
        | inr off ↦ rw (leads_unless off) is
      ]

  sum_within : (old : ℕ) → found g n ≡ Some old → Within old (widened g n e rights)
  sum_within old is r h =
      let a : has (weight r) (sum_of (found g n)) ≡ true = rw is h in
      has_left (bit_or (sum_of (found g n)) rights) (added g (kind_of e)) r (has_left (sum_of (found g n)) rights r a)

  pub taken_grows : length g.rights ≡ 576 → n < 576 → Grows g (taken n e rights g)
  taken_grows places low = record {
    rights = λ m old is.
        elim (cases_eq m n) [
          | inl same ↦ record { all = widened g n e rights; is_found = rw same (found_same g n e rights places low); within = sum_within old (rw same at is) }
          | inr other ↦ record { all = old; is_found = found_other g n e rights places m other ∙ is; within = λ r h. h }
        ];
    types = λ kind r h. rw same_types h;
    leads = leads_grow;
  }

-- what was fine is so when an obtained entry is taken up, and less is left to be taken up later
module _ (s : State) (A : Side) (later left : List ℕ) (g : Gathering) (f : Fine s A later g) (n : ℕ) (e : Entry) (rights : ℕ) (low : n < 576) (is : at s n ≡ Some e) (by : Sourced s A n rights) (less : (m : ℕ) → m ≢ n → In m later → In m left) where
  old_sourced : (r : Right) → has (weight r) (sum_of (found g n)) ≡ true → IsObtainedWith s A (n / 64) (n % 64) (weight r)
  old_sourced r h = go (found g n) refl h
    where
      go : (x : Option ℕ) → found g n ≡ x → has (weight r) (sum_of x) ≡ true → IsObtainedWith s A (n / 64) (n % 64) (weight r)
      go (Some old) was h = (f.sourced n old low was).each r h
      go None was h = absurd (has_none r h)

  added_sourced : (r : Right) → has (weight r) (added g (kind_of e)) ≡ true → IsObtainedWith s A (n / 64) (n % 64) (weight r)
  added_sourced r h =
      let a = f.added_by (kind_of e) r h in
      let o = by.obtained in
      let kind : kind_by (entry s o.by.table o.by.index) ≡ a.control.kind = rw (o.same_table, o.same_index, is) (sym a.same_kind) in
      record {
        by = with_rights (bit_or o.by.rights a.control.rights) o.by;
        obtained = amplified a.by o.by a.control a.obtained a.may_add a.is_control o.obtained kind;
        same_table = o.same_table;
        same_index = o.same_index;
        has_right = has_right o.by.rights a.control.rights r a.adds;
      }

  new_sourced : Sourced s A n (widened g n e rights)
  new_sourced = record {
    obtained = by.obtained;
    each = λ r h.
        elim (has_either r (bit_or (sum_of (found g n)) rights) (added g (kind_of e)) h) [
          | inl more ↦ elim (has_either r (sum_of (found g n)) rights more) [
            | inl old ↦ old_sourced r old
            | inr mine ↦ by.each r mine
          ]
          | inr a ↦ added_sourced r a
        ];
  }

  places : length g.rights ≡ 576
  places = f.listed.places

  grows : Grows g (taken n e rights g)
  grows = taken_grows n e rights g places low

  new_rights : (all : ℕ) → found (taken n e rights g) n ≡ Some all → widened g n e rights ≡ all
  new_rights all found_with = same_Some (widened g n e rights) all (sym (found_same g n e rights places low) ∙ found_with)

  led_before : leads e (sum_of (found g n)) ≡ true → (j : ℕ) × (slice_get g.leads j ≡ Some n)
  led_before h = go (found g n) refl h
    where
      go : (x : Option ℕ) → found g n ≡ x → leads e (sum_of x) ≡ true → (j : ℕ) × (slice_get g.leads j ≡ Some n)
      go (Some old) was h = f.led n e old low is was h
      go None was h = absurd (both_ways (leads e 0) (no_lead e) h)

  new_led : leads e (widened g n e rights) ≡ true → (j : ℕ) × (slice_get (taken n e rights g).leads j ≡ Some n)
  new_led h =
      elim (cases_Bool (starts g n e rights)) [
        | inl on ↦ (length g.leads, rw (leads_if n e rights g on) (slice_get_end g.leads n))
        | inr off ↦ elim (and_cases (leads e (widened g n e rights)) (not (leads e (sum_of (found g n)))) off) [
          | inl never ↦ absurd (both_ways (leads e (widened g n e rights)) never h)
          | inr before ↦ let j = led_before (not-false (leads e (sum_of (found g n))) before) in (j.0, leads_grow n e rights g j.0 n j.1)
        ]
      ]

  new_lead : starts g n e rights ≡ true → IsLead s (taken n e rights g) n
  new_lead on = record {
    low = low;
    of = e;
    is_there = is;
    rights = widened g n e rights;
    is_found = found_same g n e rights places low;
    may_lead = (and_parts (leads e (widened g n e rights)) (not (leads e (sum_of (found g n)))) on).0;
  }

  lead_after : (j m : ℕ) → slice_get (taken n e rights g).leads j ≡ Some m → IsLead s (taken n e rights g) m
  lead_after j m at_j =
      elim (cases_Bool (starts g n e rights)) [
        | inl on ↦
            let at_j' : slice_get (g.leads ++ n ∷ []) j ≡ Some m = rw (leads_if n e rights g on) at at_j in
            elim (slice_get_added g.leads n m j at_j') [
              | inl (i, same) ↦ rw same (new_lead on)
              | inr (within, old) ↦ still_leads s g (taken n e rights g) grows m (f.lead j m old)
            ]
        | inr off ↦
            let at_j' : slice_get g.leads j ≡ Some m = rw (leads_unless n e rights g off) at at_j in
            still_leads s g (taken n e rights g) grows m (f.lead j m at_j')
      ]

  pub taken_fine : Fine s A left (taken n e rights g)
  taken_fine = record {
    listed = listed_taken s g n e rights f.listed is low;
    sourced = λ m all low' found_with.
        elim (cases_eq m n) [
          | inl same ↦ rw (same, ← new_rights all (rw same at found_with)) new_sourced
          | inr other ↦ f.sourced m all low' (sym (found_other g n e rights places m other) ∙ found_with)
        ];
    added_by = λ kind r h. f.added_by kind r (rw (same_types n e rights g) at h);
    wide = λ m e' all unless low' is' found_with r h.
        elim (cases_eq m n) [
          | inl same ↦
              let there : at s n ≡ Some e' = rw same at is' in
              let same_entry : e' ≡ e = cc in
              let h' : has (weight r) (added g (kind_of e)) ≡ true = rw (same_types n e rights g, same_entry) at h in
              rw (← new_rights all (rw same at found_with))
              (has_right (bit_or (sum_of (found g n)) rights) (added g (kind_of e)) r h')
          | inr other ↦ f.wide m e' all (λ i. unless (less m other i)) low' is' (sym (found_other g n e rights places m other) ∙ found_with) r (rw (same_types n e rights g) at h)
        ];
    led = λ m e' all low' is' found_with h.
        elim (cases_eq m n) [
          | inl same ↦
              let there : at s n ≡ Some e' = rw same at is' in
              let same_entry : e' ≡ e = cc in
              let h' : leads e (widened g n e rights) ≡ true = rw (new_rights all (rw same at found_with), ← same_entry) h in
              rw same (new_led h')
          | inr other ↦
              let j = f.led m e' all low' is' (sym (found_other g n e rights places m other) ∙ found_with) h in
              (j.0, leads_grow n e rights g j.0 m j.1)
        ];
    lead = lead_after;
  }
