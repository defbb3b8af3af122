-- When two states are equal in all that a side of tasks reaches in the first.
use Rattle.std.proofs.Common.{◌≡◌, ℕ, length, Some, slice_index, refl, ap}
use Rattle.rules.specs.declared.entry.Entry.TheVariants.{Object}
use Rattle.rules.specs.declared.entry.Storage.{Storage}
use Rattle.rules.specs.State.{State, entry, level, stack}
use Rattle.soundness.specs.Sound.{Takes}
use Rattle.isolation.specs.Reach.{Reaches, Side, only}

pub record Matches (A : Side) (s u : State) : Type 0 where
  pub same_stacks : (q : ℕ) → A q → stack s q ≡ stack u q
  pub same_entries : (t i : ℕ) → Reaches s A t i → entry s t i ≡ entry u t i
  pub same_bytes : (t i : ℕ) (o : Storage) (a : ℕ) → Reaches s A t i → entry s t i ≡ Some (Object o) → Takes o a → slice_index s.bytes a ≡ slice_index u.bytes a

-- so a task is at the same level in both
pub same_level : (P : ℕ) (s u : State) → Matches (only P) s u → level s P ≡ level u P
unfolding level
same_level P s u m = ap length (m.same_stacks P refl)
