use Rattle.std.proofs.Common.{◌-◌, ◌<◌}
use Rattle.sharing.specs.Search.{AreTypes}
use Rattle.store.specs.Orderly.{InTables}
use Rattle.sharing.proofs.types.Types.of.Given as goal

abbrev pub invariant-loop-number : goal.invariant-loop-number
invariant-loop-number g l = AreTypes l.store l.types (576 - l.number) × (l.number < 576 → InTables l.store)
