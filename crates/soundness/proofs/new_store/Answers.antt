use Rattle.std.proofs.Common.{sym, subst}
use Rattle.soundness.specs.Theorem.{StaysSound}
use Rattle.soundness.proofs.Returns.{entries_last, gives_back, sealed_entries_last}
use Rattle.soundness.proofs.Starts.{empty_sound}
use Rattle.soundness.proofs.Steps.{run_sound, step_sound}
use Rattle.soundness.proofs.new_store.Goals as goal

pub returns-clause-empty_is_sound : goal.returns-clause-empty_is_sound
returns-clause-empty_is_sound g c = empty_sound

pub returns-clause-calls_keep_sound : goal.returns-clause-calls_keep_sound
returns-clause-calls_keep_sound g c = λ call s. λ sound. step_sound s sound call

pub returns-clause-every_run_is_sound : goal.returns-clause-every_run_is_sound
returns-clause-every_run_is_sound g c = λ l cs. run_sound cs _ (empty_sound l)

pub returns-clause-stays_sound : goal.returns-clause-stays_sound
returns-clause-stays_sound g c = subst StaysSound (sym c.new.ensures) (λ cs. run_sound cs _ (empty_sound (g.B.Bank.bytes c.args.bank)))

pub returns-clause-returns_give_back : goal.returns-clause-returns_give_back
returns-clause-returns_give_back g c = gives_back

pub returns-clause-entries_last : goal.returns-clause-entries_last
returns-clause-entries_last g c = entries_last

pub returns-clause-sealed_entries_last : goal.returns-clause-sealed_entries_last
returns-clause-sealed_entries_last g c = sealed_entries_last
