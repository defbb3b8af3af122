use Rattle.std.proofs.Common.{rules}
use Rattle.two_chips.proofs.Lanes.{taken}
use Rattle.two_chips.proofs.pairs.deinterleave_lanes.Goals as goal

pub returns : goal.returns
returns c = taken c.args.lead.now c.args.follow.now c.args.run.now (search rules) c.requires.run_long c.requires.lead_long c.requires.follow_long
