-- How a line of a script is read.
use Rattle.std.specs.Prelude.{ℕ, List, [], ◌∷◌, Some, None, codes, Option, nat_le, if◌then◌else◌, bytes_eq}
use Rattle.std.specs.Option.{option_map}
use Rattle.rules.specs.declared.call.Call.{Call}
use Rattle.rules.specs.declared.call.Call.TheVariants.{Load as load, Operator as operator}
use Rattle.rules.specs.declared.call.Load.{Load}
use Rattle.rules.specs.declared.call.Load.TheVariants.{Place, Control, Task, Grant, Fill, Seal}
use Rattle.rules.specs.declared.call.Operator.{Operator}
use Rattle.rules.specs.declared.call.Operator.TheVariants.{Copy, Null, Restrict, Amplify, Create, Typed, Refine, Read, Write, See, Look, Call as Calls, Return}
use Rattle.runs.specs.Runs.{Request}
use Rattle.script.specs.declared.line.Numbers.{Numbers}
use Rattle.script.specs.Text.{before, behind, number_of}

infixr 20 ◌≫?◌
-- go on with what was found
abbrev pub ◌≫?◌ : {X Y : Type 0} → Option X → (X → Option Y) → Option Y
None ≫? f = None
Some x ≫? f = f x

-- a number and a space, and what stands behind them
abbrev pub number_then : List ℕ → Option (ℕ × List ℕ)
number_then t = number_of (before 32 t) ≫? λ n. behind 32 t ≫? λ u. Some (n, u)

-- a number with nothing behind it
abbrev pub ends : Option (List ℕ) → Option ℕ → Option ℕ
ends (Some u) n = None
ends None n = n

abbrev pub last_number : List ℕ → Option ℕ
last_number t = ends (behind 32 t) (number_of (before 32 t))

-- seven numbers, single spaces between them and none at either end
abbrev pub numbers_of : List ℕ → Option Numbers
numbers_of t =
    number_then t ≫? λ q.
    number_then q.1 ≫? λ a.
    number_then a.1 ≫? λ b.
    number_then b.1 ≫? λ c.
    number_then c.1 ≫? λ d.
    number_then d.1 ≫? λ e.
    last_number e.1 ≫? λ f.
    Some (record { task = q.0; a = a.0; b = b.0; c = c.0; d = d.0; e = e.0; f = f })

infixr 20 ◌else◌
-- the first that there is
abbrev pub ◌else◌ : {X : Type 0} → Option X → Option X → Option X
Some x else o = Some x
None else o = o

abbrev pub reads : {X : Type 0} → List ℕ → List ℕ → X → Option X
reads w text x = if bytes_eq w text then Some x else None

-- the call that a word and the numbers of a line make
abbrev pub load_of : List ℕ → Numbers → Option Load
load_of w n =
    reads w (codes "place") (Place n.a n.b n.c n.d) else
    reads w (codes "control") (Control n.a n.b n.c) else
    reads w (codes "task") (Task n.task n.a) else
    reads w (codes "grant") (Grant n.a n.b n.c n.d n.e n.f) else
    reads w (codes "fill") (Fill n.a n.b n.c) else
    reads w (codes "seal") Seal

abbrev pub operator_of : List ℕ → Numbers → Option Operator
operator_of w n =
    reads w (codes "copy") (Copy n.a n.b) else
    reads w (codes "null") (Null n.a) else
    reads w (codes "restrict") (Restrict n.a n.b n.c) else
    reads w (codes "amplify") (Amplify n.a n.b n.c) else
    reads w (codes "create") (Create n.a n.b n.c) else
    reads w (codes "typed") (Typed n.a n.b n.c n.d) else
    reads w (codes "refine") (Refine n.a n.b n.c n.d n.e n.f) else
    reads w (codes "read") (Read n.a n.b) else
    reads w (codes "write") (Write n.a n.b) else
    reads w (codes "see") (See n.a) else
    reads w (codes "look") (Look n.a) else
    reads w (codes "call") (Calls n.a n.b) else
    reads w (codes "return") (Return n.a)

abbrev pub call_of : List ℕ → Numbers → Option Call
call_of w n = option_map (operator n.task) (operator_of w n) else option_map load (load_of w n)

-- the byte beside a call: fill and write take one, beside any other call it is 0
abbrev pub byte_beside : Call → Numbers → ℕ
byte_beside (load (Fill t i offset)) n = n.d
byte_beside (operator q (Write src offset)) n = n.c
byte_beside c n = 0

-- a larger number than a byte makes the line bad
abbrev pub request : ℕ → Call → Option Request
request byte c = if nat_le byte 255 then Some (record { call = c; bytes = byte ∷ [] }) else None

-- a word, a space and the numbers
unfoldable pub line_of : List ℕ → Option Request
line_of t =
    behind 32 t ≫? λ u.
    numbers_of u ≫? λ n.
    call_of (before 32 t) n ≫? λ c.
    request (byte_beside c n) c
