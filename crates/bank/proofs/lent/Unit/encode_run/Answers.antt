use Rattle.std.proofs.Common.{◌≡◌, length, map, sym, ◌∙◌, arith}
use Rattle.std.proofs.lemmas.List.{length-map, same_lists}
use Rattle.bank.proofs.lent.Unit.encode_run.Goals as goal

pub returns : goal.returns
returns g c =
    let u = g.Self.Unit.unit_of in
    let whole : length c.loop-i.units ≡ length (map u c.args.source.now) = rw length-map (omega arith) in
    same_lists c.loop-i.units (map u c.args.source.now) whole (λ k d h. c.loop-i.invariant k d (omega arith)) ∙ sym (g.met.Self.Unit.units_each c.args.source.now)
