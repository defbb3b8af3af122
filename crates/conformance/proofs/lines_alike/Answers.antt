use Rattle.std.proofs.Common.{◌≡◌, eqb, length, take, filter, ◌∙◌, rules, tests}
use Rattle.std.proofs.lemmas.Iterator.{YieldsList-from_slice, YieldsList-from_zip}
use Rattle.std.proofs.lemmas.Iterator.Consumers.{count_from_yields_List, YieldsList-at, YieldsList-from_filter}
use Rattle.std.proofs.lemmas.Iterator.Search.{YieldsList-from_take_while}
use Rattle.std.proofs.lemmas.List.Folds.{length-prefix_len}
use Rattle.std.specs.List.{zip}
use Rattle.conformance.proofs.Parts.{alike, parted}
use Rattle.conformance.proofs.lines_alike.Goals as goal

pub returns : goal.returns
returns c =
    let xs = c.args.a.now in
    let ys = c.args.b.now in
    let front : c.count-alike.result ≡ alike xs ys = count_from_yields_List c.take_while.result _ c.count-alike.ensures.ran (YieldsList-from_take_while _ (λ p. eqb p.0 p.1) (YieldsList-at c.take_while.ensures.source (YieldsList-from_zip (YieldsList-at c.zip.ensures.first (YieldsList-from_slice xs c.iter.ensures.rest)) (YieldsList-from_slice ys (cc)))) c.take_while.ensures.closure c.take_while.ensures.done (λ x b q k. search (rules, tests))) ∙ length-prefix_len (λ p. eqb p.0 p.1) (zip xs ys) in
    let parts = parted xs ys (search rules) in
    let counted : c.count.result ≡ length (filter (λ b. eqb b 10) (take c.count-alike.result xs)) = count_from_yields_List c.filter.result _ c.count.ensures.ran (YieldsList-from_filter _ (λ b. eqb b 10) (YieldsList-at c.filter.ensures.source (YieldsList-from_slice (take c.count-alike.result xs) c.iter-2.ensures.rest)) c.filter.ensures.closure (λ x b q k. search (rules, tests))) in
    (c.count-alike.result, rw front parts.0, rw front parts.1, counted)
