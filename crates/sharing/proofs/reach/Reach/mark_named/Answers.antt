-- One place more is marked as the definition says.
use Rattle.std.proofs.Common.{◌≡◌, ℕ, ◌+◌, refl, add-one}
use Rattle.rules.specs.State.{State}
use Rattle.sharing.specs.Marks.{found_marked, named_marked}
use Rattle.sharing.specs.Search.{found}
use Rattle.sharing.specs.declared.reach.Reach.{Reach}
use Rattle.sharing.proofs.reach.Reach.mark_named.Goals as goal

one_more : (s : State) (n m : ℕ) (r q u : Reach) → m ≡ n → q ≡ named_marked s n r → u ≡ found_marked s m (found q.gathering m) q → u ≡ named_marked s (n + 1) r
unfolding named_marked
one_more s n m r q u same so_far h = rw (add-one, ← so_far, ← same) h

pub loop-number-init : goal.loop-number-init
unfolding named_marked
loop-number-init g c = refl

pub loop-number-preserved : goal.loop-number-preserved
loop-number-preserved g c = one_more _ _ _ _ _ _ c.numbered.ensures c.loop-number.invariant c.mark_found.ensures
