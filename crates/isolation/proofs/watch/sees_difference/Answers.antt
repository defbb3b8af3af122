use Rattle.std.proofs.Common.{refl}
use Rattle.runs.specs.Runs.{run}
use Rattle.runs.proofs.More.{if_err}
use Rattle.isolation.proofs.Example.{a_difference}
use Rattle.isolation.proofs.Runs.{isolated, none_seen, stopped}
use Rattle.isolation.proofs.Same.{all_run}
use Rattle.isolation.proofs.watch.sees_difference.Goals as goal

pub returns-in_err-on_left-clause-cut_off : goal.returns-in_err-on_left-clause-cut_off
unfolding run
returns-in_err-on_left-clause-cut_off g c = if_err c.from_residual.result (c.in_err-on_left.ensures.cut_off, (0, refl))

pub returns-in_err-on_left-clause-isolation : goal.returns-in_err-on_left-clause-isolation
returns-in_err-on_left-clause-isolation g c = isolated

pub returns-in_err-on_left-clause-never_cut_off : goal.returns-in_err-on_left-clause-never_cut_off
unfolding run
returns-in_err-on_left-clause-never_cut_off g c = λ given.
    if_err c.from_residual.result (
      stopped c.args.task c.args.left_requests.now _ _ given.sealed given.separate c.in_err-on_left.ensures.cut_off,
      stopped c.args.task c.args.right_requests.now _ _ given.sealed_too given.separate_too (0, refl),
    )

pub returns-in_err-on_left-clause-example : goal.returns-in_err-on_left-clause-example
returns-in_err-on_left-clause-example g c = a_difference

pub returns-in_err-on_right-clause-cut_off : goal.returns-in_err-on_right-clause-cut_off
returns-in_err-on_right-clause-cut_off g c =
    if_err c.from_residual-in_err-on_right.result (all_run c.args.left_requests.now _ _ c.in_ok-on_left.ensures.made, c.in_err-on_right.ensures.cut_off)

pub returns-in_err-on_right-clause-isolation : goal.returns-in_err-on_right-clause-isolation
returns-in_err-on_right-clause-isolation g c = isolated

pub returns-in_err-on_right-clause-never_cut_off : goal.returns-in_err-on_right-clause-never_cut_off
returns-in_err-on_right-clause-never_cut_off g c = λ given.
    if_err c.from_residual-in_err-on_right.result (
      stopped c.args.task c.args.left_requests.now _ _ given.sealed given.separate (all_run c.args.left_requests.now _ _ c.in_ok-on_left.ensures.made),
      stopped c.args.task c.args.right_requests.now _ _ given.sealed_too given.separate_too c.in_err-on_right.ensures.cut_off,
    )

pub returns-in_err-on_right-clause-example : goal.returns-in_err-on_right-clause-example
returns-in_err-on_right-clause-example g c = a_difference

pub returns-clause-cut_off : goal.returns-clause-cut_off
returns-clause-cut_off g c = if_err c.differ.result (all_run c.args.left_requests.now _ _ c.in_ok-on_left.ensures.made, all_run c.args.right_requests.now _ _ c.in_ok-on_right.ensures.made)

pub returns-clause-value : goal.returns-clause-value
returns-clause-value g c = rw (← c.in_ok-on_left.ensures.answered, ← c.in_ok-on_right.ensures.answered, ← c.deref.ensures.value, ← c.deref-2.ensures.value) c.differ.ensures

pub returns-clause-isolation : goal.returns-clause-isolation
returns-clause-isolation g c = isolated

pub returns-clause-never : goal.returns-clause-never
returns-clause-never g c = λ given.
    none_seen c.args.task c.args.left_requests.now c.args.right_requests.now _ _ _ _ c.differ.result given c.in_ok-on_left.ensures.made c.in_ok-on_right.ensures.made (returns-clause-value g c)

pub returns-clause-never_cut_off : goal.returns-clause-never_cut_off
returns-clause-never_cut_off g c = λ given.
    if_err c.differ.result (
      stopped c.args.task c.args.left_requests.now _ _ given.sealed given.separate (all_run c.args.left_requests.now _ _ c.in_ok-on_left.ensures.made),
      stopped c.args.task c.args.right_requests.now _ _ given.sealed_too given.separate_too (all_run c.args.right_requests.now _ _ c.in_ok-on_right.ensures.made),
    )

pub returns-clause-example : goal.returns-clause-example
returns-clause-example g c = a_difference
