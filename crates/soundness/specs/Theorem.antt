-- The laws over whole runs of calls.
use Rattle.std.specs.Prelude.{◌≡◌, ℕ, ◌<◌, ◌≤◌, List, [], ◌∷◌, Some}
use Rattle.rules.specs.declared.entry.Entry.{Entry}
use Rattle.rules.specs.State.{State, empty, entry, level, level_of, stack, table}
use Rattle.runs.specs.Runs.{Request, run, step}
use Rattle.soundness.specs.Sound.{Sound}

-- a store that was just made is sound, whatever its bank holds
abbrev pub EmptyIsSound : Type 0
EmptyIsSound = (l : List ℕ) → Sound (empty l)

-- every call keeps a sound store sound, refused or not
abbrev pub CallsKeepSound : Type 0
CallsKeepSound = (r : Request) (s : State) → Sound s → Sound (step r s)

-- whatever calls come after a state, every state on the way is sound
abbrev pub StaysSound : State → Type 0
StaysSound s = (rs : List Request) → Sound (run rs s)

-- hence every state in every run is sound
abbrev pub EveryRunIsSound : Type 0
EveryRunIsSound = (l : List ℕ) → StaysSound (empty l)

-- the level of task q is above n, and stays so with each of these requests
abbrev pub StaysAbove : ℕ → ℕ → List Request → State → Type 0
StaysAbove q n [] s = n < level s q
StaysAbove q n (r ∷ rs) s = (n < level s q) × StaysAbove q n rs (step r s)

-- in state s a request, a call, raises the level of task q; any others follow, while the task stays
-- above its old level; then one, a return, brings it back there and leaves state u
pub record CallAndReturn (q : ℕ) (s u : State) : Type 0 where
  pub calling : Request
  pub between : List Request
  pub returning : Request
  pub stays_above : StaysAbove q (level s q) between (step calling s)
  pub is_it : u ≡ step returning (run between (step calling s))
  pub is_back : level u q ≡ level s q

-- a return gives back exactly what the call took: the task's table, which is its entries and its
-- claim, and its open contexts are again what they were
abbrev pub ReturnsGiveBack : Type 0
ReturnsGiveBack = (q : ℕ) (s u : State) → Sound s → CallAndReturn q s u →
    (table u q ≡ table s q) × (stack u q ≡ stack s q)

-- an entry of level 0 or 1 never ends and never changes
abbrev pub EntriesLast : Type 0
EntriesLast = (s : State) (rs : List Request) → Sound s →
    (t i : ℕ) (e : Entry) → entry s t i ≡ Some e → level_of e ≤ 1 → entry (run rs s) t i ≡ Some e

-- hence none does that is there before any task has made a call, as when a store is sealed
abbrev pub SealedEntriesLast : Type 0
SealedEntriesLast = (s : State) (rs : List Request) → Sound s → ((q : ℕ) → level s q ≤ 1) →
    (t i : ℕ) (e : Entry) → entry s t i ≡ Some e → entry (run rs s) t i ≡ Some e
