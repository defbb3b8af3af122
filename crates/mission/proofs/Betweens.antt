-- Laws of what stands between two sides.
use Rattle.std.proofs.Common.{◌≡◌, ℕ, zero, suc, ◌+◌, ◌<◌, ◌⊎◌, Bool, true, false, cond, ◌&&◌, ltb, List, [], ◌∷◌, ◌++◌, length, get_or, Some, None, Option, All, Contains, refl, sym, subst, ap, inl, inr, arith}
use Rattle.std.specs.Prelude.{◌||◌, option_to_list, slice_index_or}
use Rattle.std.proofs.lemmas.Bool.{and_parts, cases_eq, ltb-true}
use Rattle.rules.specs.State.{State}
use Rattle.isolation.specs.Reach.{only, others}
use Rattle.std.proofs.lemmas.List.Elements.{All-append, Contains-append_left, Contains-append_right}
use Rattle.sharing.specs.Reached.{IsReach, altered_at, is_place, place, reached_at}
use Rattle.sharing.specs.declared.reach.Reach.{Reach}
use Rattle.mission.specs.Obstacles.{AreBetween, AreObstacles, IsInTheWay, IsObstacle, between, is_between}
use Rattle.mission.specs.declared.tasks.Obstacle.{Obstacle}

-- what is there if a test passes
if_some : {X : Type 0} (b : Bool) (x y : X) → cond b (Some x) None ≡ Some y → (b ≡ true) × (x ≡ y)
if_some true x y e = (refl, cc)
if_some false x y e = cc

module _ (a b : Reach) where
  -- an obstacle names its place
  pub named_as : (t i : ℕ) (o : Obstacle) → between a b t i ≡ Some o → (o.table ≡ t) × (o.index ≡ i)
  named_as t i o e =
      let same = (if_some (is_between a b t i) (record { table = t; index = i; own = altered_at a t i; others = altered_at b t i }) o e).1 in
      (ap (λ (x : Obstacle). x.table) (sym same), ap (λ (x : Obstacle). x.index) (sym same))

  only_one : (o : Obstacle) → between a b o.table o.index ≡ Some o → All (λ (x : Obstacle). between a b x.table x.index ≡ Some x) (o ∷ [])
  only_one o e zero d h = e
  only_one o e (suc k) d h = absurd (omega arith)

  pub begins : (os : List Obstacle) → os ≡ [] → AreBetween a b 0 0 os
  begins os none = record {
    each = λ k d h. absurd (let few : k < length {A = Obstacle} [] = subst (λ (xs : List Obstacle). k < length xs) none h in omega (arith, few));
    all = λ u i o w h e. elim w [ inl l ↦ absurd (omega (arith, l)) | inr r ↦ absurd (omega (arith, r.1)) ];
  }

  pub next_table : (t : ℕ) (os : List Obstacle) → AreBetween a b t 64 os → AreBetween a b (t + 1) 0 os
  next_table t os g = record {
    each = g.each;
    all = λ u i o w h e. elim w [
      | inl l ↦ elim (cases_eq u t) [ inl same ↦ g.all u i o (inr (same, h)) h e | inr other ↦ g.all u i o (inl (omega (arith, l, other))) h e ]
      | inr r ↦ absurd (omega (arith, r.1))
    ];
  }

  pub next_entry : (t n : ℕ) (os more : List Obstacle) → AreBetween a b t n os → more ≡ os ++ option_to_list (between a b t n) → AreBetween a b t (n + 1) more
  next_entry t n os more g e = go (between a b t n) refl e
    where
      go : (x : Option Obstacle) → between a b t n ≡ x → more ≡ os ++ option_to_list x → AreBetween a b t (n + 1) more
      go None is e = subst (AreBetween a b t (n + 1)) (sym e) (record {
        each = All-append (λ (x : Obstacle). between a b x.table x.index ≡ Some x) os [] g.each (λ k d h. absurd (omega (arith, h)));
        all = λ u i o w h has. Contains-append_left os [] o (elim w [
          | inl l ↦ g.all u i o (inl l) h has
          | inr r ↦ elim (cases_eq i n) [
            | inl same ↦ let none : between a b t n ≡ Some o = rw (← r.0, ← same) has in absurd (cc (is, none))
            | inr other ↦ g.all u i o (inr (r.0, omega (arith, r.1, other))) h has
          ]
        ]);
      })
      go (Some p) is e =
          let place = named_as t n p is in
          subst (AreBetween a b t (n + 1)) (sym e) (record {
            each = All-append (λ (x : Obstacle). between a b x.table x.index ≡ Some x) os (p ∷ []) g.each (only_one p (subst (λ (u : ℕ). between a b u p.index ≡ Some p) (sym place.0) (subst (λ (m : ℕ). between a b t m ≡ Some p) (sym place.1) is)));
            all = λ u i o w h has. elim w [
              | inl l ↦ Contains-append_left os (p ∷ []) o (g.all u i o (inl l) h has)
              | inr r ↦ elim (cases_eq i n) [
                | inl same ↦
                    let found : between a b t n ≡ Some o = rw (← r.0, ← same) has in
                    let it : p ≡ o = cc (is, found) in
                    Contains-append_right os (p ∷ []) o (subst (Contains (p ∷ [])) it (0, omega arith, refl))
                | inr other ↦ Contains-append_left os (p ∷ []) o (g.all u i o (inr (r.0, omega (arith, r.1, other))) h has)
              ]
            ];
          })

-- tests put together
some_of : (x y : Bool) → (x || y) ≡ true → (x ≡ true) ⊎ (y ≡ true)
some_of true y e = inl refl
some_of false y e = inr e

all_of : (x y z w : Bool) → x ≡ true → y ≡ true → (z ≡ true) ⊎ (w ≡ true) → (x && (y && (z || w))) ≡ true
all_of true true true w ex ey e = refl
all_of true true false true ex ey e = refl
all_of true true false false ex ey (inl e) = e
all_of true true false false ex ey (inr e) = e
all_of true false z w ex ey e = cc
all_of false y z w ex ey e = cc

-- what is told of two sides is so, and so what stands between them stands in the way
module _ (P : ℕ) (s : State) (a b : Reach) (ra : IsReach s (only P) a) (rb : IsReach s (others P) b) where
  in_the_way : (t i : ℕ) → is_between a b t i ≡ true → IsInTheWay P s t i
  in_the_way t i e =
      let first = and_parts (reached_at a t i) (reached_at b t i && (altered_at a t i || altered_at b t i)) e in
      let second = and_parts (reached_at b t i) (altered_at a t i || altered_at b t i) first.1 in
      record {
        reached = (ra.reaches t i).0 first.0;
        reached_too = (rb.reaches t i).0 second.0;
        altered = elim (some_of (altered_at a t i) (altered_at b t i) second.1) [ inl x ↦ inl ((ra.alters t i).0 x) | inr x ↦ inr ((rb.alters t i).0 x) ];
      }

  told : (t i : ℕ) → IsInTheWay P s t i → is_between a b t i ≡ true
  told t i w =
      all_of (reached_at a t i) (reached_at b t i) (altered_at a t i) (altered_at b t i) ((ra.reaches t i).1 w.reached) ((rb.reaches t i).1 w.reached_too)
      (elim w.altered [ inl x ↦ inl ((ra.alters t i).1 x) | inr x ↦ inr ((rb.alters t i).1 x) ])

  in_place : (t i : ℕ) → reached_at a t i ≡ true → (t < 9) × (i < 64)
  in_place t i e =
      let both = and_parts (is_place t i) (slice_index_or a.reached (place t i) false) e in
      let parts = and_parts (ltb t 9) (ltb i 64) both.0 in
      (ltb-true t 9 parts.0, ltb-true i 64 parts.1)

  is_obstacle : (o : Obstacle) → between a b o.table o.index ≡ Some o → IsObstacle P s o
  is_obstacle o e =
      let found = if_some (is_between a b o.table o.index) (record { table = o.table; index = o.index; own = altered_at a o.table o.index; others = altered_at b o.table o.index }) o e in
      let own_is : o.own ≡ altered_at a o.table o.index = ap (λ (x : Obstacle). x.own) (sym found.1) in
      let others_is : o.others ≡ altered_at b o.table o.index = ap (λ (x : Obstacle). x.others) (sym found.1) in
      record {
        is_in_the_way = in_the_way o.table o.index found.0;
        own = rw own_is (ra.alters o.table o.index);
        others = rw others_is (rb.alters o.table o.index);
      }

  pub are_obstacles : (os : List Obstacle) → AreBetween a b 9 0 os → AreObstacles P s os
  are_obstacles os g = record {
    each = λ k d h. is_obstacle (get_or os k d) (g.each k d h);
    all = λ t i w.
        let o : Obstacle = record { table = t; index = i; own = altered_at a t i; others = altered_at b t i } in
        let is : between a b t i ≡ Some o = rw (told t i w) refl in
        let low = in_place t i ((ra.reaches t i).1 w.reached) in
        record { by = o; listed = g.all t i o (inl low.0) low.1 is; same_table = refl; same_index = refl };
  }
