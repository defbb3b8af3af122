-- The states of the listing, and of the calls after it.
use Rattle.std.proofs.Common.{◌≡◌, ℕ, ◌+◌, ◌≤◌, Bool, true, false, leb, List, [], ◌∷◌, length, replicate, Some, Ok, Err, refl, arith}
use Rattle.std.proofs.lemmas.Bool.{le-leb, leb-true}
use Rattle.bank.specs.Runs.{read_run, write_run}
use Rattle.rules.specs.declared.descriptor.Descriptor.{Descriptor}
use Rattle.rules.specs.declared.entry.Entry.{Entry}
use Rattle.rules.specs.declared.entry.Entry.TheVariants.{Object}
use Rattle.rules.specs.declared.fault.Reason.TheVariants.{NullEnvironment, NotDeletable, OutOfRange, NoRoom}
use Rattle.bank.specs.Words.{word_at, word_bytes}
use Rattle.rules.specs.State.{State, no_table, empty, table, stack, level, entry, encode, named, has, shown, held, read, write, delete}
use Rattle.rules.specs.Tests.{refusal, refusal_at, loading, operator, environment, resolve, source_or_null, source, source_with, destination, has_room}
use Rattle.rules.specs.Effects.{overwrite, put, with_table, with_stack, grown, add, new_object, enter, leave, sealing}
use Rattle.rules.specs.Loading.{adding, making, place_plan, starting, task_plan, grant_plan, seal_plan}
use Rattle.rules.specs.Operators.{makes, null_plan, create_plan, read_plan, write_plan, see_plan, call_plan, return_plan}
use Rattle.rules.proofs.Words.{IsSmall, names_encoded, zero_names_nothing}
use Rattle.examples.specs.Listing.{Gives}

-- the definitions of the calls, opened; what stays shut are the words of descriptors and the runs of bytes
opened : Unit {0}
unfolding empty table stack level entry shown held
    loading operator environment resolve source_or_null source source_with destination has_room
    overwrite put with_table with_stack grown add new_object enter leave sealing
    adding making place_plan starting task_plan grant_plan seal_plan makes null_plan create_plan read_plan write_plan see_plan call_plan return_plan
opened = tt

-- a state in which only task 1 has a table and open contexts
abbrev pub only : List Entry → ℕ → List ℕ → Bool → List ℕ → State
only es claim cs seal b =
    record {
      tables = no_table ∷ record { entries = es; claim = claim } ∷ replicate 7 no_table;
      stacks = [] ∷ cs ∷ replicate 7 [];
      sealed = seal;
      bytes = b;
    }

abbrev pub context : Entry
context = Object (record { base = 2064; bytes = 0; slots = 4; kind = 1; level = 1 })

abbrev pub object : Entry
object = Object (record { base = 2064; bytes = 2; slots = 0; kind = 0; level = 0 })

-- a descriptor of the object with these rights, and its word
abbrev pub descriptor : ℕ → Descriptor
descriptor rights = record { table = 1; index = 1; rights = rights }

abbrev pub word : ℕ → ℕ
word rights = encode (descriptor rights)

-- rights that can be granted, and with which bytes can be read and written
pub record Usable (rights : ℕ) : Type 0 where
  pub granted : leb rights 63 ≡ true
  pub reads : has read rights ≡ true
  pub writes : has write rights ≡ true

pub usable_3 : Usable 3
usable_3 = record { granted = refl; reads = refl; writes = refl }

pub usable_35 : Usable 35
usable_35 = record { granted = refl; reads = refl; writes = refl }

pub small : (r : ℕ) → Usable r → IsSmall (descriptor r)
small r u = let most = leb-true r 63 u.granted in record { table = omega arith; index = omega arith; rights = omega (arith, most) }

names_object : (s : State) (r : ℕ) → Usable r → entry s 1 1 ≡ Some object → named s (word r) ≡ Some (descriptor r)
names_object s r u e = names_encoded s (descriptor r) object (small r u) e

-- the context and the object, not sealed or sealed
abbrev pub loaded : Bool → List ℕ → State
loaded seal b = only (context ∷ object ∷ []) 18 (0 ∷ []) seal b

-- inside a call
abbrev pub inner : List ℕ → State
inner b = only (context ∷ object ∷ Object (record { base = 2082; bytes = 0; slots = 4; kind = 1; level = 2 }) ∷ []) 34 (2 ∷ 0 ∷ []) true b

-- with an object of n bytes more
abbrev created : ℕ → Entry
created n = Object (record { base = 2066; bytes = n; slots = 0; kind = 0; level = 1 })

abbrev pub with_new : ℕ → List ℕ → State
with_new n b = only (context ∷ object ∷ created n ∷ []) (18 + (0 + n)) (0 ∷ []) true b

-- the descriptor that names it, and its word
abbrev pub new_descriptor : Descriptor
new_descriptor = record { table = 1; index = 2; rights = 63 }

abbrev pub new_word : ℕ
new_word = encode new_descriptor

pub small_new : IsSmall new_descriptor
small_new = record { table = omega arith; index = omega arith; rights = omega arith }

module _ (b : List ℕ) (enough : 18432 ≤ length b) where
  long : leb 18432 (length b) ≡ true
  long = le-leb 18432 (length b) enough

  pub tasks : Gives (task_plan 1 4) (empty b) (Ok 0) (only (context ∷ []) 16 (0 ∷ []) false (write_run b 2048 (replicate 16 0)))
  unfolding opened
  tasks = rw long

  pub places : let s : State = only (context ∷ []) 16 (0 ∷ []) false b in Gives (place_plan 1 2 0 0) s (Ok 1) (loaded false (write_run b 2064 (replicate 2 0)))
  unfolding opened
  places = rw long

  pub grants : (r : ℕ) → Usable r → Gives (grant_plan 1 0 0 1 1 r) (loaded false b) (Ok tt) (loaded false (write_run b 2060 (word_bytes (word r))))
  unfolding opened
  grants r u = rw (long, u.granted)

  pub seals : Gives seal_plan (loaded false b) (Ok tt) (loaded true b)
  unfolding opened
  seals = rw long

  -- slot 1 of the context is null
  module _ (null : word_at b 2056 ≡ 0) where
    pub nulls_not : Gives (null_plan 1 5) (loaded true b) (Err (refusal_at NullEnvironment 1 1 5)) (loaded true b)
    unfolding opened
    nulls_not = rw (long, null, zero_names_nothing (loaded true b))

    pub sees_not : Gives (see_plan 1 5) (loaded true b) (Err (refusal_at NullEnvironment 1 1 5)) (loaded true b)
    unfolding opened
    sees_not = rw (long, null, zero_names_nothing (loaded true b))

    pub creates : (n : ℕ) → leb n 2048 ≡ true → leb (18 + (0 + n)) 2048 ≡ true →
        Gives (create_plan 1 4 n 0) (loaded true b) (Ok tt) (with_new n (write_run (write_run b 2066 (replicate (0 + n) 0)) 2056 (word_bytes new_word)))
    unfolding opened
    creates n e f = rw (long, null, zero_names_nothing (loaded true b), e, f)

    pub creates_not : (n : ℕ) → leb n 2048 ≡ true → leb (18 + (0 + n)) 2048 ≡ false → Gives (create_plan 1 4 n 0) (loaded true b) (Err (refusal NoRoom 1)) (loaded true b)
    unfolding opened
    creates_not n e f = rw (long, null, zero_names_nothing (loaded true b), e, f)

    pub calls : Gives (call_plan 1 4 4) (loaded true b) (Ok tt) (inner (write_run (write_run b 2066 (replicate 16 0)) 2078 (word_bytes 0)))
    unfolding opened
    calls = rw (long, null, zero_names_nothing (loaded true b))

  -- slot 0 of the context names the object
  module _ (r : ℕ) (u : Usable r) (names : word_at b 2060 ≡ word r) where
    pub nulls_not_first : has delete r ≡ false → Gives (null_plan 1 0) (loaded true b) (Err (refusal_at NotDeletable 1 1 0)) (loaded true b)
    unfolding opened
    nulls_not_first e = rw (long, names, names_object (loaded true b) r u refl, e)

    pub writes : Gives (write_plan 1 0 1 (7 ∷ [])) (loaded true b) (Ok tt) (loaded true (write_run b 2065 (7 ∷ [])))
    unfolding opened
    writes = rw (long, names, names_object (loaded true b) r u refl, u.writes)

    pub reads : (o n : ℕ) → leb (o + n) 2 ≡ true → Gives (read_plan 1 0 o n) (loaded true b) (Ok (read_run b (2064 + (0 + o)) n)) (loaded true b)
    unfolding opened
    reads o n e = rw (long, names, names_object (loaded true b) r u refl, u.reads, e)

    pub reads_not : (o n : ℕ) → leb (o + n) 2 ≡ false → Gives (read_plan 1 0 o n) (loaded true b) (Err (refusal OutOfRange 1)) (loaded true b)
    unfolding opened
    reads_not o n e = rw (long, names, names_object (loaded true b) r u refl, u.reads, e)

    -- slot 1 of the inner context is null
    pub returns : has delete r ≡ true → word_at b 2074 ≡ 0 → Gives (return_plan 1 4) (inner b) (Ok tt) (loaded true (write_run b 2060 (word_bytes 0)))
    unfolding opened
    returns e null = rw (long, null, zero_names_nothing (inner b), names, names_object (inner b) r u refl, e)

  pub sees : (n : ℕ) → word_at b 2056 ≡ new_word → Gives (see_plan 1 4) (with_new n b) (Ok (Some new_descriptor)) (with_new n b)
  unfolding opened
  sees n e = rw (long, e, names_encoded (with_new n b) new_descriptor (created n) small_new refl)
