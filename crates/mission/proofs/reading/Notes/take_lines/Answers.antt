use Rattle.std.proofs.Common.{refl, ◌∙◌}
use Rattle.runs.specs.Runs.{run}
use Rattle.script.proofs.Turns.{run_after}
use Rattle.mission.proofs.reading.Notes.take_lines.Goals as goal

pub loop-text-preserved : goal.loop-text-preserved
loop-text-preserved g c = rw c.take.ensures (run_after _ _ _ _ refl) ∙ (rw c.in-Some.ensures.steps at c.loop-text.invariant)

pub returns : goal.returns
unfolding run
returns g c = rw c.in-None.ensures.steps.0 at c.loop-text.invariant
