use Rattle.std.proofs.Common.{◌≡◌, ◌≤◌, ℕ, ◌-◌, Option, Some, None}
use Rattle.std.specs.List.{slice_get}
use Rattle.rules.specs.State.{State}
use Rattle.sharing.specs.Search.{IsListed, all_widened, last_of}
use Rattle.sharing.specs.declared.gathering.Gathering.{Gathering}
use Rattle.sharing.proofs.gathering.Gathering.widen_all.Given as goal

-- of the last places so many are left, and the rest is what is left to do
pub record IsLeft (s : State) (kind : ℕ) (next : Option ℕ) (g all : Gathering) : Type 0 where
  pub places : ℕ
  pub few : places ≤ 576
  pub is_next : next ≡ slice_get (last_of s kind places) 0
  pub is_rest : all_widened s (last_of s kind places) g ≡ all_widened s (last_of s kind 576) all
  pub listed : IsListed s g

abbrev pub left : Option ℕ → ℕ
left (Some n) = 576 - n
left None = 0

abbrev pub invariant-loop-next : goal.invariant-loop-next
invariant-loop-next g l = IsLeft l.store l.fn.kind l.next l.self l.initial.self

abbrev pub decreases-loop-next : goal.decreases-loop-next
decreases-loop-next g l = left l.next
