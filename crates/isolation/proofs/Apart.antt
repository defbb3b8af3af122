-- A call of a task is nothing to a side of other tasks that is separate from its own, and the sides
-- stay separate.
use Rattle.std.proofs.Common.{◌≡◌, ◌⊎◌, ℕ, ◌≤◌, Some, None, slice_index, sym, subst, ◌∙◌, inl, inr, arith}
use Rattle.std.proofs.lemmas.Bool.{cases_lt}
use Rattle.rules.specs.declared.entry.Entry.TheVariants.{Object}
use Rattle.rules.specs.declared.entry.Storage.{Storage}
use Rattle.rules.specs.State.{State, entry, level_of, table}
use Rattle.soundness.specs.Sound.{Sound, Takes}
use Rattle.isolation.specs.Reach.{Alters, Reaches, Side, only}
use Rattle.isolation.proofs.Alikes.{alters_back, reaches_back}
use Rattle.isolation.proofs.Growth.{alters_grows, no_fresh, reaches_grows}
use Rattle.isolation.proofs.Matches.{Matches}
use Rattle.isolation.proofs.Moves.{MayChange, Moved, altered, fresh, unclaimed}
use Rattle.isolation.proofs.Sides.{altered_reached, alters_more, reached_there}

-- no object that both sides reach can be altered by either
abbrev pub Apart : State → Side → Side → Type 0
Apart s A B = (t i : ℕ) → Reaches s A t i → Reaches s B t i → ((Alters s A t i → ⊥) × (Alters s B t i → ⊥))

-- a byte of an object is one that a call of a task may change only if the task alters the object
pub changed_altered : (s : State) (q : ℕ) → Sound s → (t i : ℕ) (o : Storage) (a : ℕ) → entry s t i ≡ Some (Object o) → Takes o a → MayChange s q a → Alters s (only q) t i
changed_altered s q g t i o a is takes (altered v n p alters is' takes') = let same = g.apart t i v n o p a is is' takes takes' in rw (same.0, same.1) alters
changed_altered s q g t i o a is takes (unclaimed from to) =
    let inside = g.in_claim t i o is in
    let home : t ≡ q = omega (arith, inside, takes, g.small_claim t) in
    let claim : (table s t).claim ≡ (table s q).claim = rw home in
    absurd (omega (arith, inside, takes))

module _ (s u : State) (q : ℕ) (g : Sound s) (j : Sound u) (m : Moved s u q) (A B : Side) (mine : A q) (not_theirs : B q → ⊥) (apart : Apart s A B) where
  -- a byte of an object that the other side reaches is none that the call may change
  not_changed : (t i : ℕ) (o : Storage) (a : ℕ) → Reaches s B t i → entry s t i ≡ Some (Object o) → Takes o a → MayChange s q a → ⊥
  not_changed t i o a r is takes may =
      let alters : Alters s A t i = alters_more s (only q) A (λ v e. subst A (sym e) mine) t i (changed_altered s q g t i o a is takes may) in
      (apart t i (altered_reached s A t i alters) r).0 alters

  -- the other side has what it had
  pub other_matches : Matches B s u
  other_matches =
      record {
        same_stacks = λ t b. sym (m.other_stacks t (λ e. not_theirs (subst B e b)));
        same_entries = λ t i r.
            let there = reached_there s g B t i r in
            there.1.0 ∙ sym (m.stays t i there.0 there.1.0 (λ e. low (level_of there.0) (λ up. not_theirs (subst B e (there.1.1 up)))));
        same_bytes = λ t i o a r is takes. same (slice_index u.bytes a) (slice_index s.bytes a) (not_changed t i o a r is takes) (m.bytes a);
      }
    where
      low : (n : ℕ) → (1 ≤ n → ⊥) → n ≡ 0
      low n none = elim (cases_lt 0 n) [ inl up ↦ absurd (none up) | inr zero ↦ omega arith ]

      same : (x y : ℕ) {P : Type 0} → (P → ⊥) → (x ≡ y) ⊎ P → y ≡ x
      same x y none (inl e) = sym e
      same x y none (inr h) = absurd (none h)

  pub apart_kept : Apart u A B
  apart_kept t i a b =
      let b' : Reaches s B t i = reaches_back B s u other_matches g j t i b in
      let there = reached_there s g B t i b' in
      let old : (t ≡ q) × (i ≡ fresh s q) → ⊥ = λ new. let none : entry s t i ≡ None = rw (new.0, new.1) (no_fresh s q) in let is = there.1.0 in cc in
      let a' : Reaches s A t i = elim (reaches_grows s u q g j m A mine t i a) [ inl h ↦ h | inr new ↦ absurd (old new) ] in
      let no = apart t i a' b' in
      (λ h. elim (alters_grows s u q g j m A mine t i h) [ inl h' ↦ no.0 h' | inr new ↦ old new ], λ h. no.1 (alters_back B s u other_matches g j t i h))
