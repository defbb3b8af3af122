use Rattle.std.proofs.Common.{◌≡◌, true, false, length, refl, ap, ◌∙◌, arith}
use Rattle.std.specs.Prelude.{not}
use Rattle.std.proofs.lemmas.Bool.{lt-leb, le-leb}
use Rattle.script.specs.Answers.{is_short, later_lines, script_of}
use Rattle.script.proofs.Heads.{headed, headed_by, first_line}
use Rattle.script.proofs.Sounds.{every_script}
use Rattle.script.proofs.script.answer_script.Goals as goal

pub returns-then-input-gt-LONGEST : goal.returns-then-input-gt-LONGEST
unfolding script_of later_lines
returns-then-input-gt-LONGEST c = record { printed = rw (lt-leb (length c.args.input.now) 16384 (omega arith)) c.bad.ensures; every_script_is_sound = every_script }

pub returns-then-ne : goal.returns-then-ne
unfolding script_of later_lines
returns-then-ne c =
    let fits : is_short c.args.input.now ≡ true = le-leb (length c.args.input.now) 16384 (omega arith) in
    let first = first_line c.args.input.now c.next.new.self.rest.now c.next.result c.next.ensures.steps in
    let other : headed c.next.result ≡ false = headed_by c.next.result _ c.ne.result refl c.ne.ensures ∙ ap not c.if-ne.true in
    record { printed = rw (fits, first.0 ∙ other) c.bad-then-ne.ensures; every_script_is_sound = every_script }

pub returns : goal.returns
unfolding script_of later_lines
returns c =
    let fits : is_short c.args.input.now ≡ true = le-leb (length c.args.input.now) 16384 (omega arith) in
    let first = first_line c.args.input.now c.next.new.self.rest.now c.next.result c.next.ensures.steps in
    let equal : headed c.next.result ≡ true = headed_by c.next.result _ c.ne.result refl c.ne.ensures ∙ ap not c.if-ne.false in
    record { printed = rw (fits, first.0 ∙ equal, first.1 equal) c.answer_on_new_store.ensures; every_script_is_sound = every_script }
