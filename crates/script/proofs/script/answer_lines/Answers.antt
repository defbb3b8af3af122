use Rattle.std.proofs.Common.{vec_items, ap, ◌∙◌}
use Rattle.script.proofs.Turns.{turn, turned}
use Rattle.script.proofs.script.answer_lines.Goals as goal

pub loop-text-preserved : goal.loop-text-preserved
loop-text-preserved g c =
    turn _ _ _ _ _ _ _ _ c.in_ok-answer_line.ensures.printed c.answer_line.ensures.made (rw c.in-Some.ensures.steps at c.loop-text.invariant)

pub returns-clause-printed : goal.returns-clause-printed
returns-clause-printed g c = ap vec_items c.into_bytes.ensures.value ∙ (turned _ _ _ _ (rw c.in-None.ensures.steps.0 at c.loop-text.invariant)).0

pub returns-clause-made : goal.returns-clause-made
returns-clause-made g c = (turned _ _ _ _ (rw c.in-None.ensures.steps.0 at c.loop-text.invariant)).1
