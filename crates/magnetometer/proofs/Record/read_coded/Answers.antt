use Rattle.std.proofs.Common.{ℕ, List, map, ap, ◌∙◌, arith, rules}
use Rattle.bank.specs.Runs.{read_run}
use Rattle.hamming.specs.Code.{decoded}
use Rattle.magnetometer.specs.Records.{record_bytes}
use Rattle.magnetometer.proofs.Halves.{same_record, byte_below}
use Rattle.magnetometer.proofs.Survives.{read_each, survived}
use Rattle.magnetometer.proofs.Record.read_coded.Goals as goal

pub returns-clause-survives : goal.returns-clause-survives
returns-clause-survives c = λ stored before word bit fits less room is.
    same_record c.read.result stored (search rules) (search rules) (search rules) fits.0 fits.1 fits.2
    (c.read.ensures.value ∙ read_each decoded c.args.words.now c.args.address 6 (omega arith)
    ∙ ap (λ (m : List ℕ). read_run (map decoded m) c.args.address 6) is
    ∙ survived before (record_bytes stored) c.args.address word bit (byte_below stored) less room)
