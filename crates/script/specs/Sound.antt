-- Scripts keep the store sound.
use Rattle.std.specs.Prelude.{ℕ, List, take}
use Rattle.runs.specs.Runs.{run}
use Rattle.soundness.specs.Sound.{Sound}
use Rattle.script.specs.Answers.{later_lines, fresh, requests_of}

-- in any script, the store is sound after any number of lines
abbrev pub EveryScriptIsSound : Type 0
EveryScriptIsSound =
    (text : List ℕ) (n : ℕ) → Sound (run (requests_of (take n (later_lines text))) fresh)
