-- What a directory stands for.
use Rattle.std.specs.Prelude.{ℕ, List}
use Rattle.rules.specs.State.{State}
use Rattle.tables.specs.declared.directory.Directory.{Directory}

-- the state of a store with this directory, whose bank means this list
abbrev pub state_of : Directory → List ℕ → State
state_of d l = record { tables = d.tables; stacks = d.stacks; sealed = d.sealed; bytes = l }
