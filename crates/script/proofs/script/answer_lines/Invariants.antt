use Rattle.std.proofs.Common.{string_bytes}
use Rattle.script.specs.Text.{lines_of}
use Rattle.script.proofs.Turns.{Turn}
use Rattle.script.proofs.script.answer_lines.Given as goal

abbrev pub invariant-loop-text : goal.invariant-loop-text
invariant-loop-text g l = Turn (string_bytes l.out) (lines_of l.text-iterator.rest.now) (lines_of l.lines.rest.now) l.store l.initial.store
