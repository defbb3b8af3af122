use Rattle.std.proofs.Common.{List, ℕ, ap, ◌∙◌, arith}
use Rattle.bank.specs.Runs.{read_run}
use Rattle.magnetometer.specs.Records.{record_bytes}
use Rattle.magnetometer.proofs.Survives.{read_used, shown}
use Rattle.magnetometer.proofs.Record.read_plain.Goals as goal

pub returns-clause-shows : goal.returns-clause-shows
returns-clause-shows c = λ stored before byte bit room is.
    c.read.ensures.value ∙ read_used c.args.bytes.now c.args.address 6 (omega arith)
    ∙ ap (λ (m : List ℕ). read_run m c.args.address 6) is
    ∙ shown before (record_bytes stored) c.args.address byte bit room
