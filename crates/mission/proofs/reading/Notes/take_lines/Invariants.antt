use Rattle.std.proofs.Common.{◌≡◌}
use Rattle.runs.specs.Runs.{run}
use Rattle.script.specs.Answers.{requests_of}
use Rattle.script.specs.Text.{lines_of}
use Rattle.mission.proofs.reading.Notes.take_lines.Given as goal

abbrev pub invariant-loop-text : goal.invariant-loop-text
invariant-loop-text g l = run (requests_of (lines_of l.text-iterator.rest.now)) l.store ≡ run (requests_of (lines_of l.lines.rest.now)) l.initial.store
