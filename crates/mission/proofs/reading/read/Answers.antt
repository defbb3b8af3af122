use Rattle.std.proofs.Common.{◌≡◌, true, false, length, refl, ap, ◌∙◌, arith}
use Rattle.std.specs.Prelude.{not}
use Rattle.std.proofs.lemmas.Bool.{le-leb}
use Rattle.script.specs.Answers.{is_short, later_lines}
use Rattle.script.proofs.Heads.{headed, headed_by, first_line}
use Rattle.mission.proofs.reading.read.Goals as goal

pub returns-then-ne : goal.returns-then-ne
returns-then-ne g c =
    let fits : is_short c.args.text.now ≡ true = le-leb (length c.args.text.now) 16384 (omega arith) in
    let first = first_line c.args.text.now c.next.new.self.rest.now c.next.result c.next.ensures.steps in
    let other : headed c.next.result ≡ false = headed_by c.next.result _ c.ne.result refl c.ne.ensures ∙ ap not c.if-ne.true in
    rw (fits, first.0 ∙ other) refl

pub returns : goal.returns
unfolding later_lines
returns g c =
    let fits : is_short c.args.text.now ≡ true = le-leb (length c.args.text.now) 16384 (omega arith) in
    let first = first_line c.args.text.now c.next.new.self.rest.now c.next.result c.next.ensures.steps in
    let equal : headed c.next.result ≡ true = headed_by c.next.result _ c.ne.result refl c.ne.ensures ∙ ap not c.if-ne.false in
    rw (fits, first.0 ∙ equal, first.1 equal) c.in_ok-take_lines.ensures
