-- Whatever lines come, the store is sound.
use Rattle.std.proofs.Common.{replicate, take}
use Rattle.soundness.proofs.Starts.{empty_sound}
use Rattle.soundness.proofs.Steps.{run_sound}
use Rattle.script.specs.Answers.{later_lines, fresh, requests_of}
use Rattle.script.specs.Sound.{EveryScriptIsSound}

pub every_script : EveryScriptIsSound
unfolding fresh
every_script text n = run_sound (requests_of (take n (later_lines text))) fresh (empty_sound (replicate 18432 0))
