-- The store of the example, call by call, and what task 1 reads in it.
use Rattle.std.proofs.Common.{◌≡◌, ℕ, ◌≤◌, Bool, true, false, leb, List, [], ◌∷◌, length, get_or, replicate, Some, Ok, refl, sym, ap, ◌∙◌, inl, inr, arith}
use Rattle.std.proofs.lemmas.Bool.{le-leb}
use Rattle.std.proofs.lemmas.List.Elements.{All-from_recursion}
use Rattle.bank.specs.Runs.{read_run, write_run}
use Rattle.bank.specs.Words.{word_at, word_bytes}
use Rattle.bank.proofs.RunLaws.{length-write_run, get_or-write_run_before, get_or-write_run_inside}
use Rattle.bank.proofs.WordLaws.{word_elsewhere, word_written}
use Rattle.rules.specs.declared.call.Answer.TheVariants.{Done, Filled}
use Rattle.rules.specs.declared.call.Load.TheVariants.{Place, Task, Grant}
use Rattle.rules.specs.declared.descriptor.Descriptor.{Descriptor}
use Rattle.rules.specs.declared.entry.Entry.{Entry}
use Rattle.rules.specs.declared.entry.Entry.TheVariants.{Object}
use Rattle.rules.specs.State.{State, Table, no_table, empty, table, stack, level, entry, encode, named, shown, held}
use Rattle.rules.specs.Tests.{loading as may_load, operator, environment, resolve, source_or_null, source, source_with, destination, has_room}
use Rattle.rules.specs.Effects.{overwrite, put, with_table, with_stack, grown, add, new_object, enter, sealing}
use Rattle.rules.specs.Loading.{adding, making, place_plan, starting, task_plan, grant_plan, seal_plan}
use Rattle.rules.specs.Operators.{read_plan, write_plan}
use Rattle.rules.specs.Calls.{Outcome, outcome}
use Rattle.rules.proofs.Words.{IsSmall, encode_small, names_encoded}
use Rattle.runs.specs.Runs.{Request, outcome_by, outcomes, run, step}
use Rattle.isolation.specs.Example.{AnExampleOfADifference, loading, reading, shared, sharing, writing}
use Rattle.isolation.specs.Share.{Alike, IsSealed, Separate, is_load, seal}
use Rattle.isolation.specs.Theorem.{seen_by}
use Rattle.isolation.proofs.Runs.{isolated}

-- the definitions of the calls, opened; what stays shut are the words of descriptors and the runs
-- of bytes
opened : Unit {0}
unfolding outcome empty table stack level entry shown held
    may_load operator environment resolve source_or_null source source_with destination has_room
    overwrite put with_table with_stack grown add new_object enter sealing
    adding making place_plan starting task_plan grant_plan seal_plan read_plan write_plan
opened = tt

-- a state in which only tables 0 to 2 are in use
abbrev in_use : Table → Table → Table → List ℕ → List ℕ → Bool → List ℕ → State
in_use x y z cs ds sealed b =
    record { tables = x ∷ y ∷ z ∷ replicate 6 no_table; stacks = [] ∷ cs ∷ ds ∷ replicate 6 []; sealed = sealed; bytes = b }

-- the tables of the tasks, each with a context of four slots, and the table of the object
abbrev of_task : ℕ → Table
of_task base = record { entries = Object (record { base = base; bytes = 0; slots = 4; kind = 1; level = 1 }) ∷ []; claim = 16 }

abbrev object : Entry
object = Object (record { base = 0; bytes = 1; slots = 0; kind = 0; level = 0 })

abbrev of_object : Table
of_object = record { entries = object ∷ []; claim = 1 }

-- the loaded store, not sealed or sealed
abbrev loaded : Bool → List ℕ → State
loaded sealed b = in_use of_object (of_task 2064) (of_task 4112) (0 ∷ []) (0 ∷ []) sealed b

-- a descriptor of the object with these rights, and its word
abbrev descriptor : ℕ → Descriptor
descriptor rights = record { table = 0; index = 0; rights = rights }

abbrev word : ℕ → ℕ
word rights = encode (descriptor rights)

small : (r : ℕ) → r ≤ 63 → IsSmall (descriptor r)
small r few = record { table = omega arith; index = omega arith; rights = omega arith }

names_object : (sealed : Bool) (b : List ℕ) (r : ℕ) → r ≤ 63 → named (loaded sealed b) (word r) ≡ Some (descriptor r)
unfolding opened
names_object sealed b r few = names_encoded (loaded sealed b) (descriptor r) object (small r few) refl

module _ (b : List ℕ) (enough : 18432 ≤ length b) where
  long : leb 18432 (length b) ≡ true
  long = le-leb 18432 (length b) enough

  loads_1 : step (loading (Task 1 4)) (empty b) ≡ in_use no_table (of_task 2064) no_table (0 ∷ []) [] false (write_run b 2048 (replicate 16 0))
  unfolding opened
  loads_1 = rw (step, long)

  loads_2 : step (loading (Task 2 4)) (in_use no_table (of_task 2064) no_table (0 ∷ []) [] false b) ≡ in_use no_table (of_task 2064) (of_task 4112) (0 ∷ []) (0 ∷ []) false (write_run b 4096 (replicate 16 0))
  unfolding opened
  loads_2 = rw (step, long)

  places : step (loading (Place 0 1 0 0)) (in_use no_table (of_task 2064) (of_task 4112) (0 ∷ []) (0 ∷ []) false b) ≡ loaded false (write_run b 0 (replicate 1 0))
  unfolding opened
  places = rw (step, long)

  grants_1 : step (loading (Grant 1 0 0 0 0 1)) (loaded false b) ≡ loaded false (write_run b 2060 (word_bytes (word 1)))
  unfolding opened
  grants_1 = rw (step, long)

  grants_2 : step (loading (Grant 2 0 0 0 0 2)) (loaded false b) ≡ loaded false (write_run b 4108 (word_bytes (word 2)))
  unfolding opened
  grants_2 = rw (step, long)

  seal_made : (outcome_by seal (loaded false b)).answer ≡ Ok Done
  unfolding opened
  seal_made = rw long

  seals : step seal (loaded false b) ≡ loaded true b
  unfolding opened
  seals = rw (step, long)

  reads : word_at b 2060 ≡ word 1 → outcome_by reading (loaded true b) ≡ record { answer = Ok Filled; buffer = read_run b 0 1 }
  unfolding opened
  reads names = rw (long, names, names_object true b 1 (omega arith))

  writes : word_at b 4108 ≡ word 2 → step writing (loaded true b) ≡ loaded true (write_run b 0 (9 ∷ []))
  unfolding opened
  writes names = rw (step, long, names, names_object true b 2 (omega arith))

-- the bank is as long as it was
stays : (b : List ℕ) (a : ℕ) (bs : List ℕ) → 18432 ≤ length b → 18432 ≤ length (write_run b a bs)
stays b a bs h = rw length-write_run h

-- a read of byte 0
first_byte : (b : List ℕ) (x : ℕ) → get_or b 0 0 ≡ x → read_run b 0 1 ≡ x ∷ []
unfolding read_run
first_byte b x e = rw e refl

-- the byte that a read hands over
abbrev byte_seen : List Outcome → ℕ
byte_seen [] = 0
byte_seen (o ∷ os) = get_or o.buffer 0 0

module _ (l : List ℕ) (h : 18432 ≤ length l) where
  -- the bytes after each load call
  abbrev bytes_1 : List ℕ
  bytes_1 = write_run l 2048 (replicate 16 0)

  abbrev bytes_2 : List ℕ
  bytes_2 = write_run bytes_1 4096 (replicate 16 0)

  abbrev bytes_3 : List ℕ
  bytes_3 = write_run bytes_2 0 (replicate 1 0)

  abbrev bytes_4 : List ℕ
  bytes_4 = write_run bytes_3 2060 (word_bytes (word 1))

  abbrev bytes_5 : List ℕ
  bytes_5 = write_run bytes_4 4108 (word_bytes (word 2))

  long_1 : 18432 ≤ length bytes_1
  long_1 = stays l 2048 (replicate 16 0) h

  long_2 : 18432 ≤ length bytes_2
  long_2 = stays bytes_1 4096 (replicate 16 0) long_1

  long_3 : 18432 ≤ length bytes_3
  long_3 = stays bytes_2 0 (replicate 1 0) long_2

  long_4 : 18432 ≤ length bytes_4
  long_4 = stays bytes_3 2060 (word_bytes (word 1)) long_3

  long_5 : 18432 ≤ length bytes_5
  long_5 = stays bytes_4 4108 (word_bytes (word 2)) long_4

  loads_are : run sharing (empty l) ≡ loaded false bytes_5
  unfolding run
  loads_are = rw (loads_1 l h, loads_2 bytes_1 long_1, places bytes_2 long_2, grants_1 bytes_3 long_3, grants_2 bytes_4 long_4) refl

  shared_is : shared l ≡ loaded true bytes_5
  shared_is = rw loads_are (seals bytes_5 long_5)

  names_1 : word_at bytes_5 2060 ≡ word 1
  names_1 = word_elsewhere bytes_4 4108 (word_bytes (word 2)) 2060 (inl (omega arith)) ∙ word_written bytes_3 2060 (word 1) (omega (arith, long_3)) (encode_small (descriptor 1) (small 1 (omega arith)))

  names_2 : word_at bytes_5 4108 ≡ word 2
  names_2 = word_written bytes_4 4108 (word 2) (omega (arith, long_4)) (encode_small (descriptor 2) (small 2 (omega arith)))

  -- at first the byte is 0
  zero_there : get_or bytes_5 0 0 ≡ 0
  zero_there =
      get_or-write_run_before bytes_4 4108 (word_bytes (word 2)) 0 (omega arith)
      ∙ get_or-write_run_before bytes_3 2060 (word_bytes (word 1)) 0 (omega arith)
      ∙ get_or-write_run_inside bytes_2 0 (replicate 1 0) 0 (omega arith) (omega (arith, long_2))

  abbrev bytes_6 : List ℕ
  bytes_6 = write_run bytes_5 0 (9 ∷ [])

  nine_there : get_or bytes_6 0 0 ≡ 9
  nine_there = get_or-write_run_inside bytes_5 0 (9 ∷ []) 0 (omega arith) (omega (arith, long_5))

  still_named : word_at bytes_6 2060 ≡ word 1
  still_named = word_elsewhere bytes_5 0 (9 ∷ []) 2060 (inr (omega arith)) ∙ names_1

  abbrev read_of : ℕ → Outcome
  read_of x = record { answer = Ok Filled; buffer = x ∷ [] }

  sees_zero : seen_by 1 (reading ∷ []) (shared l) ≡ read_of 0 ∷ []
  unfolding outcomes
  sees_zero = rw (shared_is, reads bytes_5 long_5 names_1, first_byte bytes_5 0 zero_there) refl

  sees_nine : seen_by 1 (writing ∷ reading ∷ []) (shared l) ≡ read_of 9 ∷ []
  unfolding outcomes
  sees_nine = rw (shared_is, writes bytes_5 long_5 names_2, reads bytes_6 (stays bytes_5 0 (9 ∷ []) long_5) still_named, first_byte bytes_6 9 nine_there) refl

  is_sealed : IsSealed (shared l)
  is_sealed = record { bytes = l; loads = sharing; are_loads = All-from_recursion (λ (r : Request). is_load r.call ≡ true) sharing (refl, (refl, (refl, (refl, (refl, tt))))); seal_is_made = rw loads_are (seal_made bytes_5 long_5); is_it = refl }

  alike : Alike 1 (shared l) (shared l)
  alike =
      record {
        same_level = refl;
        same_table = refl;
        same_reach = λ t i r. r;
        same_reach_back = λ t i r. r;
        same_entries = λ t i r. refl;
        same_bytes = λ t i o a r is takes. refl;
      }

  differs : seen_by 1 (reading ∷ []) (shared l) ≡ seen_by 1 (writing ∷ reading ∷ []) (shared l) → ⊥
  differs same = let wrong : 0 ≡ 9 = ap byte_seen (sym sees_zero ∙ same ∙ sees_nine) in omega (arith, wrong)

  -- by the theorem the task cannot be separate
  not_separate : Separate 1 (shared l) → ⊥
  not_separate apart =
      differs (isolated 1 (shared l) (shared l) (reading ∷ []) (writing ∷ reading ∷ []) (record {
        from_1 = omega arith;
        to_8 = omega arith;
        sealed = is_sealed;
        sealed_too = is_sealed;
        alike = alike;
        separate = apart;
        separate_too = apart;
        same_calls = refl;
      })).same_outcomes

pub a_difference : AnExampleOfADifference
a_difference l h =
    record {
      sealed = is_sealed l h;
      sealed_too = is_sealed l h;
      alike = alike l h;
      not_separate = not_separate l h;
      same_calls = refl;
      differs = differs l h;
    }
