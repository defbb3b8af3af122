use Rattle.std.proofs.Common.{◌≡◌, length, ap, ◌∙◌, arith, rules}
use Rattle.std.proofs.lemmas.List.{length-map}
use Rattle.magnetometer.proofs.Survives.{written}
use Rattle.magnetometer.proofs.write.Goals as goal

pub returns : goal.returns
returns g c =
    let us = g.U.Unit.units_of c.args.bytes.now in
    let long : length us ≡ length c.args.bytes.now = ap length (g.met.U.Unit.units_each c.args.bytes.now) ∙ length-map c.args.bytes.now g.U.Unit.unit_of in
    written c.args.memory.now _ us c.args.address (omega arith) (search rules) (search rules)
