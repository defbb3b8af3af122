-- What is marked of what was gathered is what the side reaches and can alter.
use Rattle.std.proofs.Common.{◌≡◌, ℕ, ◌+◌, ◌*◌, ◌<◌, Some, ◌∙◌, arith}
use Rattle.rules.specs.State.{State, entry}
use Rattle.rules.specs.declared.entry.Entry.TheVariants.{Control}
use Rattle.rules.specs.declared.entry.TypeControl.{TypeControl}
use Rattle.store.specs.Orderly.{InTables}
use Rattle.sharing.proofs.Exact.{exact}
use Rattle.sharing.proofs.Marks.{marks_exact}
use Rattle.sharing.proofs.Steps.{at_place}
use Rattle.sharing.specs.Search.{AreTypes, gathered}
use Rattle.sharing.specs.Marks.{named_marked, nothing_marked, tasks_marked}
use Rattle.sharing.specs.declared.gathering.Gathering.{Gathering}
use Rattle.sharing.specs.declared.reach.Reach.{Reach}
use Rattle.sharing.specs.declared.side.Side.{Side}
use Rattle.sharing.specs.declared.types.Types.{Types}
use Rattle.sharing.proofs.reach.Reach.by_types.Goals as goal

-- the types that are controlled are numbers that there are
numbers : (s : State) (T : Types) → AreTypes s T 576 → InTables s → (t i : ℕ) (k : TypeControl) → entry s t i ≡ Some (Control k) → k.kind < 256
numbers s T types tables t i k is =
    let there = tables.entries t i (Control k) is in
    let table : t < 9 = there.0 in
    let index : i < 64 = there.1 in
    types.numbers (64 * t + i) k (omega arith) (omega arith) (at_place s t i index ∙ is)

in_turn : (s : State) (A : Side) (g : Gathering) (q u : Reach) → g ≡ gathered s A → q ≡ named_marked s 576 (nothing_marked g) → u ≡ tasks_marked s A 9 q → u ≡ tasks_marked s A 9 (named_marked s 576 (nothing_marked (gathered s A)))
in_turn s A g q u found named marked = rw (← found) (rw (← named) marked)

pub returns : goal.returns
returns g c =
    let s = c.args.store.now in
    let tables = c.requires.in_tables in
    let small = numbers s c.args.types.now c.requires.types tables in
    marks_exact s c.args.side tables (gathered s c.args.side) (exact s tables small c.args.side) _
    (in_turn _ _ _ _ _ c.of.ensures c.mark_named.ensures c.mark_contexts.ensures)
