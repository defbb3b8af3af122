-- The effect of every load call fits the sound store that it is made in.
use Rattle.std.proofs.Common.{◌≡◌, ◌≢◌, ℕ, ◌*◌, ◌==◌, ◌<◌, ◌≤◌, Bool, true, false, not, ◌&&◌, ◌||◌, nat_le, nat_lt, List, length, Some, None, Ok, Err, Option, Result, refl, inl, inr, arith}
use Rattle.std.proofs.lemmas.Bool.{and_parts, both_ways, eqb-true, ltb-true, leb-true, or_cases}
use Rattle.std.specs.Result.{IfOk}
use Rattle.rules.specs.declared.call.Answer.TheVariants.{Done, Index}
use Rattle.rules.specs.declared.call.Load.{Load}
use Rattle.rules.specs.declared.call.Load.TheVariants.{Place, Control, Task, Grant, Fill, Seal}
use Rattle.rules.specs.declared.entry.Entry.{Entry}
use Rattle.rules.specs.declared.entry.Entry.TheVariants.{Object, Control as Controls, Refined}
use Rattle.rules.specs.declared.entry.Storage.{Storage}
use Rattle.rules.specs.declared.fault.Fault.{Fault}
use Rattle.rules.specs.declared.shown.Shown.{Shown}
use Rattle.rules.specs.State.{State, entry, kind_of, level, level_of, shown, table, takes}
use Rattle.rules.specs.Tests.{◌≫=◌, fits, has_room, level_by, loading}
use Rattle.rules.specs.Effects.{Effect, Planned, new_object}
use Rattle.std.specs.Option.{is_some}
use Rattle.rules.specs.Loading.{adding, control_plan, fill_plan, grant_plan, holds, making, nameable, place_plan, seal_plan, starting, task_plan, user_kind}
use Rattle.rules.specs.Calls.{load_outcome}
use Rattle.soundness.specs.Sound.{IsUserKind, Sound}
use Rattle.soundness.proofs.Binds.{HasPlan, after, after_check, answers, check_is}
use Rattle.soundness.proofs.Changes.{Ready}
use Rattle.soundness.proofs.Finds.{Holds, shows, slot_shown}
use Rattle.soundness.proofs.Entries.{known_index, known_table}
use Rattle.soundness.proofs.Fits.{Fits, IsMadeKind, adds_plain, enters, in_shown, made_kind, may_put}
use Rattle.soundness.proofs.Origins.{MayOpen}

-- what is known of the effect of a load call: the store was not sealed, and if it was sound the
-- effect fits
pub record Loaded (s : State) (x : Effect) : Type 0 where
  pub open_yet : s.sealed ≡ false
  pub fits : Sound s → Fits s x

-- load calls may come
record Loads (s : State) : Type 0 where
  large : 18432 ≤ length s.bytes
  open_yet : s.sealed ≡ false

-- the effect of the rest of a plan fits
abbrev Fitting : {X : Type 0} → State → Result (Planned X) Fault → Type 0
Fitting s r = IfOk r (λ p. Fits s p.effect)

module _ (s : State) where
  loading_finds : (q : ℕ) → IfOk (loading s q) (λ _. Loads s)
  unfolding loading
  loading_finds q =
      after_check _ (nat_le 18432 (length s.bytes)) _ _ (λ large.
      check_is _ (not s.sealed) _ (λ open_yet. record { large = leb-true _ _ large; open_yet = is_not s.sealed open_yet }))
    where
      is_not : (b : Bool) → not b ≡ true → b ≡ false
      is_not false e = refl
      is_not true e = absurd (both_ways false refl e)

  -- every plan begins with this test
  after_loading : {X : Type 0} (q : ℕ) (f : Unit {0} → Result (Planned X) Fault) → (Loads s → Sound s → Fitting s (f tt)) → IfOk (loading s q ≫= f) (λ p. Loaded s p.effect)
  after_loading {X} q f rest = after _ _ (loading s q) f (loading_finds q) (λ _ o. go o (f tt) (rest o))
    where
      go : Loads s → (r : Result (Planned X) Fault) → (Sound s → Fitting s r) → IfOk r (λ p. Loaded s p.effect)
      go o (Ok p) fits = record { open_yet = o.open_yet; fits = fits }
      go o (Err e) fits = tt

-- types that pass the tests
given : (k : ℕ) → user_kind k ≡ true → IsUserKind k
given k e = let both = and_parts (nat_le 16 k) (nat_le k 255) e in (leb-true _ _ both.0, leb-true _ _ both.1)

placed : (k : ℕ) → k == 0 || user_kind k ≡ true → IsMadeKind k
placed k e =
    elim (or_cases (k == 0) (user_kind k) e) [
      | inl generic ↦ inl (eqb-true _ _ generic)
      | inr users ↦ inr (given k users)
    ]

module _ (s : State) (g : Sound s) where
  -- an entry of level 0, added to a table
  adding_fits : (t q : ℕ) (e : Entry) → Loads s → t < 9 → kind_of e ≢ 1 → level_of e ≡ 0 → Ready s t e → Fitting s (adding s t e q)
  unfolding adding
  adding_fits t q e o known other lowest ready =
      after_check _ (has_room (table s t) (takes e)) _ _ (λ room.
      adds_plain s g t e o.large known other (omega arith) (λ two. absurd (omega (arith, g.loading o.open_yet t))) (λ _. lowest) room ready)

  -- an entry that may be the target of a load call is a storage object
  target : (t i : ℕ) → holds (entry s t i) ≡ true → is_some (entry s t i) ≡ true → (o : Storage) × (entry s t i ≡ Some (Object o))
  target t i = go (entry s t i)
    where
      go : (x : Option Entry) → holds x ≡ true → is_some x ≡ true → (o : Storage) × (x ≡ Some (Object o))
      go (Some (Object o)) h e = (o, refl)
      go (Some (Controls c)) h e = absurd (both_ways false refl h)
      go (Some (Refined r)) h e = absurd (both_ways false refl h)
      go None h e = absurd (both_ways false refl e)

  -- while loading, an entry that may be granted is of level 0, so that any slot may name it
  grantable : (q t i rights : ℕ) → Loads s → nameable (entry s t i) ≡ true → is_some (entry s t i) ≡ true → rights ≤ 63 → Holds s q (record { table = t; index = i; rights = rights }) × (level_by (entry s t i) ≡ 0)
  grantable q t i rights o named there few = go (entry s t i) refl named there
    where
      go : (x : Option Entry) → entry s t i ≡ x → nameable x ≡ true → is_some x ≡ true → Holds s q (record { table = t; index = i; rights = rights }) × (level_by x ≡ 0)
      go (Some e) is n x =
          let other : kind_of e ≢ 1 = λ one. let wrong : not (1 == 1) ≡ true = rw one at n in both_ways false refl wrong in
          let lowest : level_of e ≡ 0 = g.loaded o.open_yet t i e is other in
          let low : t < 9 = known_table s g t i e is in
          let low' : i < 64 = known_index s g t i e is in (
            record {
              is_small = record { table = omega arith; index = omega arith; rights = omega arith };
              of = e;
              is_there = is;
              no_context = other;
              at_home = λ up. absurd (omega arith);
            },
            lowest,
          )
      go None is n x = absurd (both_ways false refl x)

-- the load calls, one by one
pub load_plan : (c : Load) (bs : List ℕ) → HasPlan Loaded (load_outcome c bs)
unfolding control_plan fill_plan grant_plan making new_object place_plan seal_plan starting task_plan
load_plan (Place t n k kind) bs =
    answers Index bs (place_plan t n k kind) (λ s.
    after_loading s 0 _ (λ o g.
    after_check _ (nat_lt t 9 && nat_le n 2048 && nat_le k 512 && (kind == 0 || user_kind kind)) _ _ (λ ranges.
    let r = and_parts _ _ ranges in
    let r' = and_parts _ _ r.0 in
    let is = made_kind kind (placed kind r.1) in
    adding_fits s g t 0 (new_object s t n k kind 0) o (ltb-true _ _ (and_parts _ _ r'.0).0) is.0 refl (refl, is.1))))
load_plan (Control t kind rights) bs =
    answers Index bs (control_plan t kind rights) (λ s.
    after_loading s 0 _ (λ o g.
    after_check _ (nat_lt t 9 && user_kind kind && nat_le rights 63) _ _ (λ ranges.
    let r = and_parts _ _ ranges in
    let r' = and_parts _ _ r.0 in
    adding_fits s g t 0 (Controls (record { kind = kind; rights = rights })) o (ltb-true _ _ r'.0) (λ e. absurd (omega arith)) refl
    (given kind r'.1, leb-true _ _ r.1))))
load_plan (Task q k) bs =
    answers Index bs (task_plan q k) (λ s.
    after_loading s q _ (λ o g.
    after_check _ (nat_le 1 q && nat_le q 8 && level s q == 0) _ _ (λ free.
    after_check _ (nat_le 4 k && nat_le k 64) _ _ (λ size.
    after_check _ (has_room (table s q) (4 * k)) _ _ (λ room.
    let f = and_parts (nat_le 1 q && nat_le q 8) (level s q == 0) free in
    let f' = and_parts (nat_le 1 q) (nat_le q 8) f.0 in
    let k' = and_parts _ _ size in
    let none = eqb-true (level s q) 0 f.1 in
    let may : MayOpen s q k = record { has_slots = leb-true _ _ k'.0; few_slots = leb-true _ _ k'.1; few_levels = omega arith } in
    enters s g q k o.large (omega (arith, leb-true q 8 f'.1)) (λ z. absurd (omega (arith, leb-true 1 q f'.0))) may (λ _. none) room)))))
load_plan (Grant t i slot nt ni rights) bs =
    answers (λ _. Done) bs (grant_plan t i slot nt ni rights) (λ s.
    after_loading s 0 _ (λ o g.
    after_check _ (holds (entry s t i) && nameable (entry s nt ni)) _ _ (λ kinds.
    after_check _ (is_some (entry s nt ni) && (is_some (entry s t i) && nat_lt slot (shown s t i).slots && nat_le rights 63)) _ _ (λ ranges.
    let k = and_parts _ _ kinds in
    let r = and_parts _ _ ranges in
    let r' = and_parts _ _ r.1 in
    let r'' = and_parts _ _ r'.0 in
    let to = target s g t i k.0 r''.0 in
    let v : Shown = shown s t i in
    let from = grantable s g v.owner nt ni rights o k.1 r.0 (leb-true _ _ r'.1) in (
      (slot_shown s g t v slot (shows s g t t i (Object to.0) to.1 (λ _. refl)) (ltb-true _ _ r''.1)).slot_in,
      may_put s v.owner v.owner v.level (record { table = nt; index = ni; rights = rights }) from.0 (omega (arith, from.1)) (λ _. refl),
    )))))
load_plan (Fill t i offset) bs =
    answers (λ _. Done) bs (fill_plan t i offset bs) (λ s.
    after_loading s 0 _ (λ o g.
    after_check _ (holds (entry s t i)) _ _ (λ kind.
    after_check _ (is_some (entry s t i) && fits offset (length bs) (shown s t i).bytes) _ _ (λ ranges.
    let r = and_parts _ _ ranges in
    let to = target s g t i kind r.0 in
    in_shown s g t (shown s t i) offset (length bs) (shows s g t t i (Object to.0) to.1 (λ _. refl)) (leb-true _ _ r.1)))))
load_plan Seal bs = answers (λ _. Done) bs seal_plan (λ s. after_loading s 0 _ (λ o g. tt))
