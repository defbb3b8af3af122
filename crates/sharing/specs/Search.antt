-- How the search goes on: what each step makes of what has been found.
use Rattle.std.specs.Prelude.{◌≡◌, ℕ, zero, suc, ◌<◌, ◌≤◌, length, ◌+◌, ◌-◌, ◌/◌, ◌%◌, Bool, false, if◌then◌else◌, not, ◌&&◌, List, [], ◌∷◌, ◌++◌, None, Option, Some, ◌==◌, bit_or, replicate, slice_index, unwrap_or, slice_index_or, slice_set}
use Rattle.std.specs.List.{slice_get}
use Rattle.rules.specs.Code.{weight}
use Rattle.rules.specs.State.{State, entry, has, held, kind_of, level, named, shown, stack}
use Rattle.rules.specs.declared.descriptor.Descriptor.{Descriptor}
use Rattle.rules.specs.declared.entry.Entry.{Entry}
use Rattle.rules.specs.declared.entry.Entry.TheVariants.{Object, Control, Refined}
use Rattle.rules.specs.declared.entry.TypeControl.{TypeControl}
use Rattle.rules.specs.declared.rights.Right.{Right}
use Rattle.rules.specs.declared.rights.Right.TheVariants.{Read, Type2}
use Rattle.rules.specs.declared.shown.Shown.{Shown}
use Rattle.sharing.specs.Reached.{place}
use Rattle.sharing.specs.declared.gathering.Gathering.{Gathering}
use Rattle.sharing.specs.Sides.{is_in}
use Rattle.sharing.specs.declared.types.Types.{Types}
use Rattle.sharing.specs.declared.side.Side.{Side}

-- the entry at a place
abbrev pub at : State → ℕ → Option Entry
at s n = entry s (n / 64) (n % 64)

-- the right by which an entry leads on to others
abbrev pub key : Entry → Right
key (Object o) = Read
key (Control k) = Type2
key (Refined r) = Read

abbrev pub leads : Entry → ℕ → Bool
leads e rights = has (weight (key e)) rights

-- the rights with which the entry at a place was found
abbrev pub found : Gathering → ℕ → Option ℕ
found g n = slice_index_or g.rights n None

abbrev pub sum_of : Option ℕ → ℕ
sum_of x = unwrap_or x 0

-- the rights that are added to a type
abbrev pub added : Gathering → ℕ → ℕ
added g kind = slice_index g.added kind

-- the entry at place n found with these rights, besides those it was found with before and those
-- that are added to its type
abbrev pub widened : Gathering → ℕ → Entry → ℕ → ℕ
widened g n e rights = bit_or (bit_or (sum_of (found g n)) rights) (added g (kind_of e))

-- it comes to lead on
abbrev pub starts : Gathering → ℕ → Entry → ℕ → Bool
starts g n e rights = leads e (widened g n e rights) && not (leads e (sum_of (found g n)))

unfoldable pub taken : ℕ → Entry → ℕ → Gathering → Gathering
taken n e rights g =
    record {
      rights = slice_set g.rights n (Some (widened g n e rights));
      added = g.added;
      leads = if starts g n e rights then g.leads ++ n ∷ [] else g.leads;
    }

-- what a word names
abbrev pub entry_taken : Descriptor → Option Entry → Gathering → Gathering
entry_taken d (Some e) g = taken (place d.table d.index) e d.rights g
entry_taken d None g = g

abbrev pub named_taken : State → Option Descriptor → Gathering → Gathering
named_taken s (Some d) g = entry_taken d (entry s d.table d.index) g
named_taken s None g = g

-- what the first n slots hold that are shown
unfoldable pub slots_taken : State → Shown → ℕ → Gathering → Gathering
slots_taken s v zero g = g
slots_taken s v (suc n) g =
    named_taken s (named s (held s (record { by = v; at = n }))) (slots_taken s v n g)

-- all that an entry shows
abbrev pub all_taken : State → ℕ → ℕ → Gathering → Gathering
all_taken s t i g = slots_taken s (shown s t i) (shown s t i).slots g

-- what the first n open contexts of a task show
abbrev pub context_taken : State → ℕ → Option ℕ → Gathering → Gathering
context_taken s q (Some c) g = all_taken s q c g
context_taken s q None g = g

unfoldable pub contexts_taken : State → ℕ → ℕ → Gathering → Gathering
contexts_taken s q zero g = g
contexts_taken s q (suc n) g = context_taken s q (slice_get (stack s q) n) (contexts_taken s q n g)

-- what the contexts of those of the first n tasks show that are of a side
unfoldable pub tasks_taken : State → Side → ℕ → Gathering → Gathering
tasks_taken s A zero g = g
tasks_taken s A (suc n) g =
    if is_in A n then contexts_taken s n (level s n) (tasks_taken s A n g) else tasks_taken s A n g

-- the rights added to its type, if it was found
abbrev pub entry_widened : ℕ → Option Entry → Option ℕ → Gathering → Gathering
entry_widened n (Some e) (Some rights) g = taken n e 0 g
entry_widened n (Some e) None g = g
entry_widened n None x g = g

-- of the last n places, those of entries of a type
abbrev pub is_of : Option Entry → ℕ → Bool
is_of (Some e) kind = kind_of e == kind
is_of None kind = false

unfoldable pub last_of : State → ℕ → ℕ → List ℕ
last_of s kind zero = []
last_of s kind (suc n) =
    if is_of (at s (576 - suc n)) kind
    then (576 - suc n) ∷ last_of s kind n
    else last_of s kind n

unfoldable pub all_widened : State → List ℕ → Gathering → Gathering
all_widened s [] g = g
all_widened s (n ∷ ns) g = all_widened s ns (entry_widened n (at s n) (found g n) g)

-- a type control adds its rights to all entries of its type
abbrev pub with_added : ℕ → ℕ → Gathering → Gathering
with_added kind rights g =
    record { rights = g.rights; added = slice_set g.added kind rights; leads = g.leads }

abbrev pub amplified : State → TypeControl → Gathering → Gathering
amplified s k g =
    if bit_or (added g k.kind) k.rights == added g k.kind
    then g
    else all_widened s (last_of s k.kind 576)
    (with_added k.kind (bit_or (added g k.kind) k.rights) g)

-- what an entry leads to
abbrev pub followed_by : State → ℕ → Option Entry → Gathering → Gathering
followed_by s n (Some (Control k)) g = amplified s k g
followed_by s n (Some (Object o)) g = all_taken s (n / 64) (n % 64) g
followed_by s n (Some (Refined r)) g = all_taken s (n / 64) (n % 64) g
followed_by s n None g = all_taken s (n / 64) (n % 64) g

abbrev pub followed : State → Option ℕ → Gathering → Gathering
followed s (Some n) g = followed_by s n (at s n) g
followed s None g = g

-- what the first n of those lead to that lead on
unfoldable pub searched : State → ℕ → Gathering → Gathering
searched s zero g = g
searched s (suc n) g = followed s (slice_get (searched s n g).leads n) (searched s n g)

abbrev pub nothing_found : Gathering
nothing_found = record { rights = replicate 576 None; added = replicate 256 0; leads = [] }

-- all that a side obtains
unfoldable pub gathered : State → Side → Gathering
gathered s A = searched s 576 (tasks_taken s A 9 nothing_found)

-- the entry at a place leads on, as it was found
abbrev pub leads_as : Option Entry → Option ℕ → Bool
leads_as (Some e) (Some rights) = leads e rights
leads_as (Some e) None = false
leads_as None x = false

-- how many of the first n places have an entry that leads on
unfoldable pub leading : State → Gathering → ℕ → ℕ
leading s g zero = 0
leading s g (suc n) = (if leads_as (at s n) (found g n) then 1 else 0) + leading s g n

-- each entry that leads on is listed once
pub record IsListed (s : State) (g : Gathering) : Type 0 where
  pub places : length g.rights ≡ 576
  pub types : length g.added ≡ 256
  pub listed : length g.leads ≡ leading s g 576

-- of the last n places, the first of each type, and after each the next of its type; types that are
-- controlled are numbers below 256
pub record AreTypes (s : State) (T : Types) (n : ℕ) : Type 0 where
  pub types : length T.first ≡ 256
  pub places : length T.next ≡ 576
  pub numbers : (m : ℕ) (k : TypeControl) → m < 576 → 576 ≤ m + n →
      at s m ≡ Some (Control k) → k.kind < 256
  pub first : (kind : ℕ) → kind < 256 →
      slice_index_or T.first kind None ≡ slice_get (last_of s kind n) 0
  pub next : (m : ℕ) (e : Entry) → m < 576 → 576 ≤ m + n → at s m ≡ Some e →
      slice_index_or T.next m None ≡ slice_get (last_of s (kind_of e) (575 - m)) 0
