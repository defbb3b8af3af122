-- One task more is marked as the definition says.
use Rattle.std.proofs.Common.{◌≡◌, ℕ, ◌+◌, if◌then◌else◌, refl, sym, ◌∙◌, add-one}
use Rattle.rules.specs.State.{State, level}
use Rattle.sharing.specs.Marks.{contexts_marked, tasks_marked}
use Rattle.sharing.specs.Sides.{is_in}
use Rattle.sharing.specs.declared.reach.Reach.{Reach}
use Rattle.sharing.specs.declared.side.Side.{Side}
use Rattle.sharing.proofs.reach.Reach.mark_contexts.Goals as goal
use Rattle.sharing.proofs.reach.Reach.mark_contexts.Goals.{then-has, else-has}

one_more : (s : State) (A : Side) (n : ℕ) (r q u : Reach) → q ≡ tasks_marked s A n r → u ≡ (if is_in A n then contexts_marked s n (level s n) q else q) → u ≡ tasks_marked s A (n + 1) r
unfolding tasks_marked
one_more s A n r q u so_far h = rw (add-one, ← so_far) h

pub loop-task-init : goal.loop-task-init
unfolding tasks_marked
loop-task-init g c = refl

pub loop-task-preserved : goal.loop-task-preserved
loop-task-preserved g c =
    one_more _ _ _ _ _ _ c.loop-task.invariant
    (elim c.if-has.branch [
      | then-has w ↦ rw (sym c.has.ensures.value ∙ w.if-has.true) (w.self-is ∙ w.mark_contexts_of.ensures)
      | else-has w ↦ rw (sym c.has.ensures.value ∙ w.if-has.false) w.self-is
    ])
