-- The entries by their types, as they are put one before the other.
use Rattle.std.proofs.Common.{◌≡◌, ◌≢◌, ℕ, suc, ◌-◌, ◌<◌, ◌==◌, Bool, true, false, replicate, Some, None, Option, refl, sym, ◌∙◌, inl, inr, arith, get_or, set}
use Rattle.std.proofs.lemmas.Bool.{cases_eq, eq-eqb, eqb-true}
use Rattle.std.proofs.lemmas.List.{get_or-set_other, get_or-set_same, length-replicate, length-set}
use Rattle.rules.specs.State.{State, kind_of}
use Rattle.rules.specs.declared.entry.Entry.{Entry}
use Rattle.rules.specs.declared.entry.Entry.TheVariants.{Control}
use Rattle.rules.specs.declared.entry.TypeControl.{TypeControl}
use Rattle.sharing.proofs.Steps.{nowhere}
use Rattle.sharing.specs.Search.{AreTypes, at, last_of}
use Rattle.sharing.specs.declared.types.Types.{Types}

pub types_none : (s : State) → AreTypes s (record { first = replicate 256 None; next = replicate 576 None }) 0
unfolding last_of
types_none s =
    record {
      types = length-replicate {A = Option ℕ} 256 None;
      places = length-replicate {A = Option ℕ} 576 None;
      numbers = λ m k less from is. absurd (omega arith);
      first = λ kind less. nowhere 256 kind;
      next = λ m e less from is. absurd (omega arith);
    }

module _ (s : State) (T : Types) (n : ℕ) (t : AreTypes s T n) (less : n < 576) where
  -- a place with no entry
  pub types_skip : at s (576 - suc n) ≡ None → AreTypes s T (suc n)
  unfolding last_of
  types_skip none =
      record {
        types = t.types;
        places = t.places;
        numbers = λ m k l from is.
            elim (cases_eq m (576 - suc n)) [
              | inl here ↦ let no : Some (Control k) ≡ None = sym is ∙ rw here none in cc
              | inr ne ↦ t.numbers m k l (omega arith) is
            ];
        first = λ kind l. rw none (t.first kind l);
        next = λ m e l from is.
            elim (cases_eq m (576 - suc n)) [
              | inl here ↦ let no : Some e ≡ None = sym is ∙ rw here none in cc
              | inr ne ↦ t.next m e l (omega arith) is
            ];
      }

  -- one with an entry
  pub types_put : (e : Entry) → at s (576 - suc n) ≡ Some e → kind_of e < 256 → ((k : TypeControl) → e ≡ Control k → k.kind < 256) →
      AreTypes s (record { first = set T.first (kind_of e) (Some (576 - suc n)); next = set T.next (576 - suc n) (get_or T.first (kind_of e) None) }) (suc n)
  unfolding last_of
  types_put e there small number =
      record {
        types = length-set T.first (kind_of e) (Some (576 - suc n)) ∙ t.types;
        places = length-set T.next (576 - suc n) (get_or T.first (kind_of e) None) ∙ t.places;
        numbers = λ m k l from is.
            elim (cases_eq m (576 - suc n)) [
              | inl here ↦
                  let one : Some (Control k) ≡ Some e = sym is ∙ rw here there in
                  let same : e ≡ Control k = cc in
                  number k same
              | inr ne ↦ t.numbers m k l (omega arith) is
            ];
        first = λ kind l.
            elim (cases_eq kind (kind_of e)) [
              | inl same ↦ rw (same, there, yes (kind_of e)) (get_or-set_same T.first (kind_of e) (Some (576 - suc n)) None (omega (arith, t.types)))
              | inr ne ↦ rw (there, no kind ne) (get_or-set_other T.first (kind_of e) kind (Some (576 - suc n)) None ne ∙ t.first kind l)
            ];
        next = λ m f l from is.
            elim (cases_eq m (576 - suc n)) [
              | inl here ↦
                  let one : Some f ≡ Some e = sym is ∙ rw here there in
                  let same : f ≡ e = cc in
                  let rest : 575 - (576 - suc n) ≡ n = omega arith in
                  rw (here, same, rest) (get_or-set_same T.next (576 - suc n) (get_or T.first (kind_of e) None) None (omega (arith, t.places)) ∙ t.first (kind_of e) small)
              | inr ne ↦ get_or-set_other T.next (576 - suc n) m (get_or T.first (kind_of e) None) None ne ∙ t.next m f l (omega arith) is
            ];
      }
    where
      yes : (k : ℕ) → (k == k) ≡ true
      yes k = eq-eqb k k refl

      no : (kind : ℕ) → kind ≢ kind_of e → (kind_of e == kind) ≡ false
      no kind ne = go (kind_of e == kind) refl
        where
          go : (b : Bool) → (kind_of e == kind) ≡ b → (kind_of e == kind) ≡ false
          go true h = absurd (ne (sym (eqb-true (kind_of e) kind h)))
          go false h = h
