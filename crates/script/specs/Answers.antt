-- What a script prints.
use Rattle.std.specs.Prelude.{ℕ, Bool, ◌&&◌, List, [], ◌∷◌, ◌++◌, length, replicate, Some, None, Ok, Err, codes, decimal, Option, Result, nat_le, slice_index, if◌then◌else◌, bytes_eq}
use Rattle.std.specs.List.{filter_map}
use Rattle.rules.specs.declared.call.Answer.{Answer}
use Rattle.rules.specs.declared.call.Answer.TheVariants.{Done, Index, Filled, Absent, Seen, Looked}
use Rattle.rules.specs.declared.fault.Fault.{Fault}
use Rattle.rules.specs.declared.fault.Layer.{Layer}
use Rattle.rules.specs.Calls.{Outcome}
use Rattle.rules.specs.Faults.{number_of, layer_of, letter_of}
use Rattle.rules.specs.State.{State, empty}
use Rattle.runs.specs.Runs.{Request, outcome_by, step}
use Rattle.script.specs.Lines.{line_of}
use Rattle.script.specs.Text.{before, behind, lines_of}

infixr 20 ◌space◌
abbrev pub ◌space◌ : List ℕ → List ℕ → List ℕ
t space u = t ++ (32 ∷ [] ++ u)

abbrev pub letter_text : Layer → List ℕ
letter_text l = letter_of l ∷ []

-- what an answer shows, with the bytes of the buffer: a read its one byte, a fault its number, the
-- letter of its layer and the place of the operand
abbrev pub answer_text : List ℕ → Result Answer Fault → List ℕ
answer_text bs (Ok Done) = codes "ok"
answer_text bs (Ok (Index n)) = codes "ok " ++ decimal n
answer_text bs (Ok Filled) = codes "ok " ++ decimal (slice_index bs 0)
answer_text bs (Ok Absent) = codes "ok absent"
answer_text bs (Ok (Seen t i r)) = codes "ok " ++ (decimal t space decimal i space decimal r)
answer_text bs (Ok (Looked t n k v)) =
    codes "ok " ++ (decimal t space decimal n space decimal k space decimal v)
answer_text bs (Err f) =
    codes "fault "
    ++ (decimal (number_of f.reason) space letter_text (layer_of f.reason) space decimal f.place)

-- every printed line ends with byte 10
abbrev pub outcome_line : Outcome → List ℕ
outcome_line o = answer_text o.buffer o.answer ++ 10 ∷ []

-- what a line prints, and the state after it; a line that is no call prints bad and calls nothing
abbrev pub printed_line : Option Request → State → List ℕ
printed_line (Some r) s = outcome_line (outcome_by r s)
printed_line None s = codes "bad\n"

abbrev pub state_after : Option Request → State → State
state_after (Some r) s = step r s
state_after None s = s

-- what lines print, one call after the other
unfoldable pub answers : List (List ℕ) → State → List ℕ
answers [] s = []
answers (l ∷ ls) s = printed_line (line_of l) s ++ answers ls (state_after (line_of l) s)

-- the calls of lines
abbrev pub requests_of : List (List ℕ) → List Request
requests_of = filter_map line_of

-- a script begins with a new store over 18,432 zero bytes
unfoldable pub fresh : State
fresh = empty (replicate 18432 0)

abbrev pub rest_of : Option (List ℕ) → List ℕ
rest_of (Some t) = t
rest_of None = []

-- the lines behind the first, which are later_lines
unfoldable pub later_lines : List ℕ → List (List ℕ)
later_lines t = lines_of (rest_of (behind 10 t))

-- a script has at most 16,384 bytes
abbrev pub is_short : List ℕ → Bool
is_short t = nat_le (length t) 16384

-- its first line is the header, byte for byte
abbrev pub is_header : List ℕ → Bool
is_header t = bytes_eq t (codes "do task a b c d e f")

-- a longer input, or another first line, prints one bad
unfoldable pub script_of : List ℕ → List ℕ
script_of t =
    if is_short t && is_header (before 10 t) then answers (later_lines t) fresh else codes "bad\n"
