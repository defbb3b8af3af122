-- What a script makes of a store.
use Rattle.std.specs.Prelude.{ℕ, Bool, ◌&&◌, if◌then◌else◌, List}
use Rattle.rules.specs.State.{State}
use Rattle.runs.specs.Runs.{run}
use Rattle.script.specs.Answers.{is_header, is_short, later_lines, requests_of}
use Rattle.script.specs.Text.{before}

-- a text is a script if it is not too long and begins with the header
abbrev pub is_script : List ℕ → Bool
is_script t = is_short t && is_header (before 10 t)

-- the store that a text makes: its calls are made, if it is a script
abbrev pub store_after : List ℕ → State → State
store_after t s = if is_script t then run (requests_of (later_lines t)) s else s
