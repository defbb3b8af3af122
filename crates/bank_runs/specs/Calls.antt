-- What a call of a bank answers, what it leaves in the buffer beside it, and the bytes of the bank
-- after it.
use Rattle.std.specs.Prelude.{ℕ, List, length, replicate, slice_index, slice_set}
use Rattle.bank.specs.Runs.{read_run, write_run}
use Rattle.bank.specs.Words.{word_at, word_bytes}
use Rattle.bank_runs.specs.declared.call.Answer.{Answer}
use Rattle.bank_runs.specs.declared.call.Answer.TheVariants.{Done, Size as Sized, Byte, Filled, Word}
use Rattle.bank_runs.specs.declared.call.Call.{Call}
use Rattle.bank_runs.specs.declared.call.Call.TheVariants.{Query as query, Change as change}
use Rattle.bank_runs.specs.declared.call.Change.{Change}
use Rattle.bank_runs.specs.declared.call.Change.TheVariants.{Write, WriteRun, ClearRun, WriteWord}
use Rattle.bank_runs.specs.declared.call.Query.{Query}
use Rattle.bank_runs.specs.declared.call.Query.TheVariants.{Size, Read, ReadRun, ReadWord}

-- the outcome of a call: its answer, and the buffer as it is left
pub record Outcome : Type 0 where
  pub answer : Answer
  pub buffer : List ℕ

-- a call that only reads; bs is the buffer, l the bytes of the bank
abbrev pub answered : Query → List ℕ → List ℕ → Outcome
answered Size bs l = record { answer = Sized (length l); buffer = bs }
answered (Read a) bs l = record { answer = Byte (slice_index l a); buffer = bs }
answered (ReadRun a) bs l = record { answer = Filled; buffer = read_run l a (length bs) }
answered (ReadWord a) bs l = record { answer = Word (word_at l a); buffer = bs }

-- the bytes after a call that writes; bs is what a run writes
abbrev pub changed : Change → List ℕ → List ℕ → List ℕ
changed (Write a b) bs l = slice_set l a b
changed (WriteRun a) bs l = write_run l a bs
changed (ClearRun a n) bs l = write_run l a (replicate n 0)
changed (WriteWord a w) bs l = write_run l a (word_bytes w)

-- a call with the bytes beside it
unfoldable pub outcome : Call → List ℕ → List ℕ → Outcome × List ℕ
outcome (query q) bs l = (answered q bs l, l)
outcome (change c) bs l = (record { answer = Done; buffer = bs }, changed c bs l)
