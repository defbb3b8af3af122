-- The answer is yes exactly if no place is met.
use Rattle.std.proofs.Common.{◌≡◌, ℕ, ◌+◌, ◌*◌, ◌/◌, ◌%◌, ◌<◌, ◌↔◌, ◌⊎◌, Bool, true, false, not, ◌&&◌, ◌||◌, List, [], ◌∷◌, length, get_or, nat_le, nat_lt, Ok, Err, Result, refl, sym, ◌∙◌, inl, inr, arith}
use Rattle.std.proofs.lemmas.Bool.{and_parts, both_ways, lt-ltb, ltb-true}
use Rattle.rules.specs.State.{State, level, stack}
use Rattle.rules.specs.Tests.{operator, refusal}
use Rattle.rules.specs.declared.fault.Fault.{Fault}
use Rattle.rules.specs.declared.fault.Reason.TheVariants.{SmallBank, WrongPhase, NoTask}
use Rattle.isolation.specs.Reach.{only, others}
use Rattle.isolation.specs.Share.{Separate}
use Rattle.sharing.specs.Marks.{Meets}
use Rattle.sharing.specs.Question.{IsAnswer, StaysYes, refused, told}
use Rattle.sharing.specs.Reached.{IsReach, altered_at, is_place, place, reached_at}
use Rattle.sharing.specs.declared.reach.Reach.{Reach}
use Rattle.soundness.specs.Sound.{Sound}
use Rattle.sharing.proofs.Lasts.{yes_lasts}
use Rattle.sharing.proofs.Marks.{not_false}
use Rattle.sharing.proofs.question.separate.Goals as goal

-- the faults
small_bank : (s : State) (P : ℕ) → nat_le 18432 (length s.bytes) ≡ false → operator s P ≡ Err (refusal SmallBank P)
unfolding operator
small_bank s P small = rw small refl

wrong_phase : (s : State) (P : ℕ) → nat_le 18432 (length s.bytes) ≡ true → s.sealed ≡ false → operator s P ≡ Err (refusal WrongPhase P)
unfolding operator
wrong_phase s P large open_ = rw (large, open_) refl

no_task : (s : State) (P : ℕ) → nat_le 18432 (length s.bytes) ≡ true → s.sealed ≡ true → level s P ≡ 0 → operator s P ≡ Err (refusal NoTask P)
unfolding operator level stack
no_task s P large closed none = rw (large, closed, empty (stack s P) none) refl
  where
    empty : (cs : List ℕ) → length cs ≡ 0 → cs ≡ []
    empty [] h = refl
    empty (c ∷ cs) h = absurd (omega arith)

-- else there is a current context
current_there : (s : State) (P c : ℕ) (cs : List ℕ) → nat_le 18432 (length s.bytes) ≡ true → s.sealed ≡ true → stack s P ≡ c ∷ cs → operator s P ≡ Ok c
unfolding operator stack
current_there s P c cs large closed is = rw (large, closed, is) refl

loaded : (s : State) (P : ℕ) → nat_le 18432 (length s.bytes) ≡ true → s.sealed ≡ true → (level s P ≡ 0 → ⊥) → (c : ℕ) × (operator s P ≡ Ok c)
unfolding level
loaded s P large closed some =
    let there = first (stack s P) some in
    (there.0, current_there s P there.0 there.1 large closed there.2)
  where
    first : (cs : List ℕ) → (length cs ≡ 0 → ⊥) → (c : ℕ) × (rest : List ℕ) × (cs ≡ c ∷ rest)
    first [] h = absurd (h refl)
    first (c ∷ cs) h = (c, cs, refl)

-- an entry that both reach and one alters is met
met_there : (a b c d : Bool) → a ≡ true → b ≡ true → (c ≡ true) ⊎ (d ≡ true) → (a && (b && (c || d))) ≡ true
met_there a b c d ha hb (inl hc) = rw (ha, hb, hc) refl
met_there a b true d ha hb (inr hd) = rw (ha, hb) refl
met_there a b false d ha hb (inr hd) = rw (ha, hb, hd) refl

either_of : (c d : Bool) → (c || d) ≡ true → (c ≡ true) ⊎ (d ≡ true)
either_of true d h = inl refl
either_of false d h = inr h

never_both : (b : Bool) → not b ≡ true → b ≡ true → ⊥
never_both b h e = both_ways (not b) (rw e refl) h

meets_from : (r u : Reach) (t i : ℕ) → reached_at r t i ≡ true → reached_at u t i ≡ true → (altered_at r t i ≡ true) ⊎ (altered_at u t i ≡ true) → Meets r u
meets_from r u t i a b either =
    let x = and_parts (is_place t i) _ a in
    let y = and_parts (is_place t i) _ b in
    let there = and_parts (nat_lt t 9) (nat_lt i 64) x.0 in
    let low : t < 9 = ltb-true t 9 there.0 in
    let low' : i < 64 = ltb-true i 64 there.1 in
    record {
      number = place t i;
      below = omega arith;
      is_met = met_there _ _ _ _ x.1 y.1 (elim either [
        | inl h ↦ inl (and_parts (is_place t i) _ h).1
        | inr h ↦ inr (and_parts (is_place t i) _ h).1
      ]);
    }

-- what is marked at a place is told there
at_place : (l : List Bool) (n : ℕ) → n < 576 → get_or l n false ≡ true → (is_place (n / 64) (n % 64) && get_or l (place (n / 64) (n % 64)) false) ≡ true
at_place l n lt h =
    let a : n / 64 < 9 = omega arith in
    let b : n % 64 < 64 = omega arith in
    let same : 64 * (n / 64) + n % 64 ≡ n = omega arith in
    rw (lt-ltb (n / 64) 9 a, lt-ltb (n % 64) 64 b, same) h

separate_as_told : (s : State) (P : ℕ) (r u : Reach) (met : Bool) → IsReach s (only P) r → IsReach s (others P) u → (met ≡ true) ↔ Meets r u → (not met ≡ true) ↔ Separate P s
separate_as_told s P r u met own theirs meets = (yes, no_other)
  where
    yes : not met ≡ true → Separate P s
    yes h t i a b =
        let a' = (own.reaches t i).1 a in
        let b' = (theirs.reaches t i).1 b in (
          λ c. never_both met h (meets.1 (meets_from r u t i a' b' (inl ((own.alters t i).1 c)))),
          λ c. never_both met h (meets.1 (meets_from r u t i a' b' (inr ((theirs.alters t i).1 c)))),
        )

    no_other : Separate P s → not met ≡ true
    no_other h = not_false met (λ e. contradiction (meets.0 e))
      where
        contradiction : Meets r u → ⊥
        contradiction m =
            let n = m.number in
            let x = and_parts (get_or r.reached n false) _ m.is_met in
            let y = and_parts (get_or u.reached n false) _ x.1 in
            let apart = h (n / 64) (n % 64)
            ((own.reaches (n / 64) (n % 64)).0 (at_place r.reached n m.below x.0))
            ((theirs.reaches (n / 64) (n % 64)).0 (at_place u.reached n m.below y.0)) in
            elim (either_of (get_or r.altered n false) (get_or u.altered n false) y.1) [
              | inl c ↦ apart.0 ((own.alters (n / 64) (n % 64)).0 (at_place r.altered n m.below c))
              | inr c ↦ apart.1 ((theirs.alters (n / 64) (n % 64)).0 (at_place u.altered n m.below c))
            ]

refused_by : (s : State) (P : ℕ) (f f' : Fault) → operator s P ≡ Err f' → f ≡ f' → IsAnswer P s (Err f)
refused_by s P f f' h e = rw e (refused f' h)

-- a yes stays
stays_by : (P : ℕ) (s : State) (r : Result Bool Fault) → IsAnswer P s r → Sound s → r ≡ Ok true → StaysYes P s
stays_by P s r answer g is = yes_lasts P s g (rw is at answer)

pub returns-then-not-has_large_bank : goal.returns-then-not-has_large_bank
returns-then-not-has_large_bank g c =
    let answer : IsAnswer c.args.task c.args.store.now _ = refused_by _ _ _ _ (small_bank _ _ (sym c.has_large_bank.ensures ∙ c.if-not-has_large_bank.true)) c.of_call.ensures in
    record { answer = answer; yes_lasts = yes_lasts; stays = stays_by _ _ _ answer }

pub returns-then-not-is_sealed : goal.returns-then-not-is_sealed
returns-then-not-is_sealed g c =
    let answer : IsAnswer c.args.task c.args.store.now _ = refused_by _ _ _ _
    (wrong_phase _ _ (sym c.has_large_bank.ensures ∙ c.if-not-has_large_bank.false) (sym c.is_sealed.ensures.value ∙ c.if-not-is_sealed.true))
    c.of_call-then-not-is_sealed.ensures in
    record { answer = answer; yes_lasts = yes_lasts; stays = stays_by _ _ _ answer }

pub returns-then-level-eq0 : goal.returns-then-level-eq0
returns-then-level-eq0 g c =
    let answer : IsAnswer c.args.task c.args.store.now _ = refused_by _ _ _ _
    (no_task _ _ (sym c.has_large_bank.ensures ∙ c.if-not-has_large_bank.false) (sym c.is_sealed.ensures.value ∙ c.if-not-is_sealed.false) (sym c.level.ensures ∙ c.if-level-eq0.true))
    c.of_call-then-level-eq0.ensures in
    record { answer = answer; yes_lasts = yes_lasts; stays = stays_by _ _ _ answer }

pub returns : goal.returns
returns g c =
    let there = loaded c.args.store.now c.args.task (sym c.has_large_bank.ensures ∙ c.if-not-has_large_bank.false) (sym c.is_sealed.ensures.value ∙ c.if-not-is_sealed.false) (λ e. c.if-level-eq0.false (c.level.ensures ∙ e)) in
    let answer : IsAnswer c.args.task c.args.store.now _ = told _ there.0 there.1 (separate_as_told _ _ _ _ _ c.by_types-own.ensures c.by_types-theirs.ensures c.meets.ensures) in
    record { answer = answer; yes_lasts = yes_lasts; stays = stays_by _ _ _ answer }
