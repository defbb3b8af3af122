use Rattle.runs.proofs.More.{if_err}
use Rattle.sharing.proofs.Lasts.{are_comparable, isolated_by_answers}
use Rattle.sharing.proofs.watching.watch.Goals as goal

pub returns-in_err-differs-clause-isolation : goal.returns-in_err-differs-clause-isolation
returns-in_err-differs-clause-isolation g c = isolated_by_answers

pub returns-in_err-differs-clause-never_cut_off : goal.returns-in_err-differs-clause-never_cut_off
returns-in_err-differs-clause-never_cut_off g c = λ known.
    if_err c.from_residual.result (c.in_err-differs.ensures.never_cut_off (are_comparable _ _ _ _ _ known))

pub returns-clause-isolation : goal.returns-clause-isolation
returns-clause-isolation g c = isolated_by_answers

pub returns-clause-never : goal.returns-clause-never
returns-clause-never g c = λ known. c.in_ok-differs.ensures.never (are_comparable _ _ _ _ _ known)
