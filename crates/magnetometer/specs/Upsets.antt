-- What one flipped bit of memory does to a record that is stored there.
use Rattle.std.specs.Prelude.{◌≡◌, ℕ, ◌+◌, ◌^◌, ◌<◌, ◌≤◌, List, length, map, bit_xor, slice_index, slice_set}
use Rattle.bank.specs.Runs.{write_run}
use Rattle.hamming.specs.Code.{code_word}
use Rattle.magnetometer.specs.declared.Record.{Record}
use Rattle.magnetometer.specs.Records.{IsInRange, record_bytes}

-- memory, or a record's bytes, after one bit of the unit at i has flipped
abbrev pub flipped : List ℕ → ℕ → ℕ → List ℕ
flipped m i bit = slice_set m i (bit_xor (slice_index m i) (2 ^ bit))

-- from coded memory the record is read that was stored there, whichever bit of whichever word has
-- flipped since
abbrev pub SurvivesAnyFlip : List ℕ → ℕ → Record → Type 0
SurvivesAnyFlip memory address read =
    (stored : Record) (before : List ℕ) (word bit : ℕ)
    → IsInRange stored → bit < 16 → address + 6 ≤ length before
    → memory ≡ flipped (write_run before address (map code_word (record_bytes stored))) word bit
    → read ≡ stored

-- from plain memory the record is read with the bit flipped that has flipped since it was stored
abbrev pub ShowsTheFlip : List ℕ → ℕ → Record → Type 0
ShowsTheFlip memory address read =
    (stored : Record) (before : List ℕ) (byte bit : ℕ)
    → address + 6 ≤ length before
    → memory ≡ flipped (write_run before address (record_bytes stored)) (address + byte) bit
    → record_bytes read ≡ flipped (record_bytes stored) byte bit
