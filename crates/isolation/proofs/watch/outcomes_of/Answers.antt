use Rattle.std.proofs.lemmas.Slice.Zip.{either_empty_from_Zip}
use Rattle.isolation.proofs.Same.{all_kept}
use Rattle.isolation.proofs.watch.outcomes_of.Goals as goal

pub returns : goal.returns
returns c = all_kept c.args.task _ _ _ _ (either_empty_from_Zip c.loop-request.request-iterator c.next.new.self c.next.result c.in-None.is c.next.ensures.steps) c.loop-request.invariant
