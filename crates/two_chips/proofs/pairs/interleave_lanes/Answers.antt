use Rattle.two_chips.proofs.Lanes.{laid}
use Rattle.two_chips.proofs.pairs.interleave_lanes.Goals as goal

pub returns : goal.returns
returns c = laid c.args.lead.now c.args.follow.now c.args.run.now c.requires.lead_long c.requires.follow_long c.requires.run_long
