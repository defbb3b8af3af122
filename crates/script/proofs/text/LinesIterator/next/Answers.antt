use Rattle.std.proofs.Common.{◌≡◌, ◌<◌, length, ◌∷◌, refl, ap, arith, rules}
use Rattle.std.proofs.lemmas.Bool.Decides.{nat_tests}
use Rattle.script.specs.Text.{lines_of}
use Rattle.script.proofs.Turns.{lines_none, line_taken}
use Rattle.script.proofs.text.LinesIterator.next.Goals as goal

pub returns-then-is_empty-clause-steps : goal.returns-then-is_empty-clause-steps
returns-then-is_empty-clause-steps c =
    let none : length c.args.self.now.rest.now ≡ 0 = grind (arith, nat_tests) in
    (lines_none _ none, lines_none _ none)

pub returns-clause-steps : goal.returns-clause-steps
returns-clause-steps c =
    let some : 0 < length c.args.self.now.rest.now = grind (arith, nat_tests) in
    line_taken c.args.self.now.rest.now c.cut.result.0.now c.cut.result.1 _ c.unwrap_or-self.result some c.cut.ensures.front c.cut.ensures.rest refl c.unwrap_or-self.ensures

pub returns-clause-goes : goal.returns-clause-goes
returns-clause-goes c =
    let some : 0 < length c.args.self.now.rest.now = grind (arith, nat_tests) in
    let taken : lines_of c.args.self.now.rest.now ≡ c.cut.result.0.now ∷ lines_of c.unwrap_or-self.result.now =
    line_taken c.args.self.now.rest.now c.cut.result.0.now c.cut.result.1 _ c.unwrap_or-self.result some c.cut.ensures.front c.cut.ensures.rest refl c.unwrap_or-self.ensures in
    let fewer : length (lines_of c.unwrap_or-self.result.now) < length (lines_of c.args.self.now.rest.now) = omega (arith, ap length taken) in
    search rules
