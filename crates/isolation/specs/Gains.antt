-- What was not given when a store was sealed is not reached afterwards.
use Rattle.std.specs.Prelude.{◌≡◌, ℕ, List, Some, slice_index}
use Rattle.rules.specs.declared.entry.Entry.{Entry}
use Rattle.rules.specs.declared.entry.Entry.TheVariants.{Object}
use Rattle.rules.specs.declared.entry.Storage.{Storage}
use Rattle.rules.specs.State.{State, entry}
use Rattle.runs.specs.Runs.{Request, run}
use Rattle.soundness.specs.Sound.{Takes}
use Rattle.isolation.specs.Reach.{Alters, Reaches, Side, only, others}
use Rattle.isolation.specs.Share.{IsSealed, Separate}

-- all tasks together
abbrev pub everyone : Side
everyone q = Unit {0}

-- of the entries that stand in s, a side reaches none in u that it does not reach in s, and alters
-- none that it does not alter in s
pub record GainsNothing (A : Side) (s u : State) : Type 0 where
  pub reaches : (t i : ℕ) (e : Entry) → entry s t i ≡ Some e → Reaches u A t i → Reaches s A t i
  pub alters : (t i : ℕ) (e : Entry) → entry s t i ≡ Some e → Alters u A t i → Alters s A t i

-- what holds of a sealed store s and the store u that calls make of it
pub record NothingGained (s u : State) : Type 0 where
  -- each entry of s stands in u, as it was
  pub lasts : (t i : ℕ) (e : Entry) → entry s t i ≡ Some e → entry u t i ≡ Some e
  -- all tasks together gain nothing
  pub together : GainsNothing everyone s u
  -- so the bytes of an object that none can alter stay as they are
  pub constant : (t i : ℕ) (o : Storage) (a : ℕ) → entry s t i ≡ Some (Object o) →
      (Alters s everyone t i → ⊥) → Takes o a → slice_index u.bytes a ≡ slice_index s.bytes a
  -- nor does a separate task by itself gain anything, whatever the others call
  pub alone : (P : ℕ) → Separate P s → GainsNothing (only P) s u
  -- nor do all others together, whatever it calls
  pub the_others : (P : ℕ) → Separate P s → GainsNothing (others P) s u

-- whatever calls come once a store is sealed, refused ones among them
abbrev pub NothingIsGained : Type 0
NothingIsGained = (s : State) (rs : List Request) → IsSealed s → NothingGained s (run rs s)
