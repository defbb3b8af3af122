use Rattle.soundness.proofs.Steps.{cut_run_sound, run_sound}
use Rattle.soundness.proofs.run.Goals as goal

pub returns-clause-stays_sound : goal.returns-clause-stays_sound
returns-clause-stays_sound g c = λ sound. λ cs. run_sound cs c.run.new.store (cut_run_sound _ c.args.store.now c.run.new.store c.run.result c.run.ensures.made c.run.ensures.cut_off sound)
