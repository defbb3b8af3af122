use Rattle.std.proofs.Common.{rules}
use Rattle.rules.specs.Effects.{put, overwrite}
use Rattle.rules.specs.State.{entry, shown, stack, table}
use Rattle.store.proofs.store.Store.return_result.Goals as goal

pub close-requires : goal.close-requires
unfolding put overwrite stack shown entry table
close-requires g c = record { opened = search rules; here = search rules }
