-- One context more is marked as the definition says.
use Rattle.std.proofs.Common.{◌≡◌, ℕ, ◌+◌, ◌*◌, true, Option, Some, None, refl, sym, ◌∙◌, add-one}
use Rattle.std.specs.List.{slice_get}
use Rattle.rules.specs.State.{State, stack}
use Rattle.sharing.specs.Marks.{context_marked, contexts_marked, marked}
use Rattle.sharing.specs.declared.reach.Reach.{Reach}
use Rattle.sharing.proofs.reach.Reach.mark_contexts_of.Goals as goal
use Rattle.sharing.proofs.reach.Reach.mark_contexts_of.Goals.{in-Some, in_default}

one_more : (s : State) (t n : ℕ) (x : Option ℕ) (r q u : Reach) → x ≡ slice_get (stack s t) n → q ≡ contexts_marked s t n r → u ≡ context_marked t x q → u ≡ contexts_marked s t (n + 1) r
unfolding contexts_marked
one_more s t n x r q u here so_far h = rw (add-one, ← so_far, ← here) h

same_mark : (t c m n : ℕ) (q u : Reach) → m ≡ c → n ≡ 64 * t + m → u ≡ marked n true q → u ≡ context_marked t (Some c) q
same_mark t c m n q u e f h = rw (← e) (rw (← f) h)

pub loop-number-init : goal.loop-number-init
unfolding contexts_marked
loop-number-init g c = refl

pub loop-number-preserved : goal.loop-number-preserved
loop-number-preserved g c =
    elim c.match-context.branch [
      | in-Some w ↦ one_more _ _ _ (Some w.in-Some.context) _ _ _ (sym w.in-Some.is ∙ c.context.ensures.value) c.loop-number.invariant (same_mark _ _ _ _ _ _ w.get.ensures.value w.of.ensures (w.self-is ∙ w.mark.ensures))
      | in_default w ↦ one_more _ _ _ None _ _ _ (sym w.in_default.is ∙ c.context.ensures.value) c.loop-number.invariant w.self-is
    ]
