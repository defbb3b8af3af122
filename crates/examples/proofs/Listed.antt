-- The listing and the calls after it, one state after the other.
use Rattle.std.proofs.Common.{◌≡◌, ℕ, ◌+◌, ◌≤◌, true, false, List, [], ◌∷◌, length, replicate, Ok, Err, Result, sym, refl, ap, ◌∙◌, inl, arith}
use Rattle.bank.specs.Runs.{read_run, write_run}
use Rattle.bank.proofs.RunLaws.{is_read_run, length-write_run, get_or-write_run_before, get_or-write_run_inside}
use Rattle.bank.proofs.WordLaws.{word_cleared, word_elsewhere, word_written}
use Rattle.rules.specs.declared.fault.Fault.{Fault}
use Rattle.rules.specs.declared.fault.Reason.{Reason}
use Rattle.rules.specs.declared.fault.Reason.TheVariants.{OutOfRange}
use Rattle.rules.specs.Faults.{number_of, layer_of, letter_of}
use Rattle.bank.specs.Words.{word_at, word_bytes}
use Rattle.rules.specs.State.{State}
use Rattle.rules.specs.Tests.{refusal_at}
use Rattle.rules.specs.Loading.{task_plan, place_plan, grant_plan, seal_plan}
use Rattle.rules.specs.Operators.{write_plan, read_plan, call_plan, return_plan, create_plan}
use Rattle.rules.proofs.Words.{encode_small}
use Rattle.examples.specs.declared.Worked.{Worked}
use Rattle.examples.specs.Listing.{Plan, Gives, answer, after, tasked, placed, granted, begun, written, read_back, listing, called, returned, created}
use Rattle.examples.specs.Examples.{Refused, Answers}
use Rattle.examples.proofs.Stages.{Usable, usable_35, small, small_new, only, context, loaded, inner, with_new, descriptor, word, new_descriptor, new_word, tasks, places, grants, seals, writes, reads, reads_not, calls, returns, creates}

-- a call made in a state that is known
module _ {X : Type 0} (plan : Plan X) {s t : State} (e : s ≡ t) where
  pub answers : {x : Result X Fault} {v : State} → Gives plan t x v → answer plan s ≡ x
  answers f = rw e (ap (λ (o : Result X Fault × State). o.0) f)

  pub leads : {x : Result X Fault} {v : State} → Gives plan t x v → after plan s ≡ v
  leads f = rw e (ap (λ (o : Result X Fault × State). o.1) f)

  pub refuses : (r : Reason) (q p sel : ℕ) → Gives plan t (Err (refusal_at r q p sel)) t →
      Refused plan s (record { number = number_of r; letter = letter_of (layer_of r); task = q; place = p; selector = sel })
  refuses r q p sel f = record { reason = r; faults = rw e f; number = refl; letter = refl }

-- the bank is as long as it was
stays : (b : List ℕ) (a : ℕ) (bs : List ℕ) → 18432 ≤ length b → 18432 ≤ length (write_run b a bs)
stays b a bs h = rw length-write_run h

module _ (l : List ℕ) (h : 18432 ≤ length l) where
  -- the bytes of the bank after the first call, and after the second
  abbrev pub cleared : List ℕ
  cleared = write_run l 2048 (replicate 16 0)

  abbrev pub ready : List ℕ
  ready = write_run cleared 2064 (replicate 2 0)

  long_cleared : 18432 ≤ length cleared
  long_cleared = stays l 2048 (replicate 16 0) h

  long_ready : 18432 ≤ length ready
  long_ready = stays cleared 2064 (replicate 2 0) long_cleared

  tasked_is : tasked l ≡ only (context ∷ []) 16 (0 ∷ []) false cleared
  unfolding tasked
  tasked_is = leads (task_plan 1 4) refl (tasks l h)

  pub placed_is : placed l ≡ loaded false ready
  unfolding placed
  placed_is = leads (place_plan 1 2 0 0) tasked_is (places cleared long_cleared)

  ready_second : word_at ready 2056 ≡ 0
  ready_second = word_elsewhere cleared 2064 (replicate 2 0) 2056 (inl (omega arith)) ∙ word_cleared l 2048 16 2056 (omega arith) (omega arith) (omega arith)

  module _ (r : ℕ) (u : Usable r) where
    -- after the grant
    abbrev pub named : List ℕ
    named = write_run ready 2060 (word_bytes (word r))

    -- after the listing
    abbrev pub listed : List ℕ
    listed = write_run named 2065 (7 ∷ [])

    long_named : 18432 ≤ length named
    long_named = stays ready 2060 (word_bytes (word r)) long_ready

    pub long_listed : 18432 ≤ length listed
    long_listed = stays named 2065 (7 ∷ []) long_named

    named_first : word_at named 2060 ≡ word r
    named_first = word_written ready 2060 (word r) (omega (arith, long_ready)) (encode_small (descriptor r) (small r u))

    pub listed_first : word_at listed 2060 ≡ word r
    listed_first = word_elsewhere named 2065 (7 ∷ []) 2060 (inl (omega arith)) ∙ named_first

    pub listed_second : word_at listed 2056 ≡ 0
    listed_second = word_elsewhere named 2065 (7 ∷ []) 2056 (inl (omega arith)) ∙ word_elsewhere ready 2060 (word_bytes (word r)) 2056 (inl (omega arith)) ∙ ready_second

    listed_byte : read_run listed 2065 1 ≡ 7 ∷ []
    listed_byte = sym (is_read_run listed 2065 (7 ∷ []) (λ i d. sym (get_or-write_run_inside named 2065 (7 ∷ []) i d (omega (arith, long_named)))))

    pub listed_bytes : read_run listed 2060 4 ≡ word_bytes (word r)
    unfolding word_bytes
    listed_bytes =
        sym (is_read_run listed 2060 (word_bytes (word r))
        (λ i d. sym (get_or-write_run_before named 2065 (7 ∷ []) (2060 + i) (omega arith) ∙ get_or-write_run_inside ready 2060 (word_bytes (word r)) i d (omega (arith, long_ready)))))

    pub granted_is : granted r l ≡ loaded false named
    unfolding granted
    granted_is = leads (grant_plan 1 0 0 1 1 r) placed_is (grants ready long_ready r u)

    begun_is : begun r l ≡ loaded true named
    unfolding begun
    begun_is = leads seal_plan granted_is (seals named long_named)

    written_is : written r l ≡ loaded true listed
    unfolding written
    written_is = leads (write_plan 1 0 1 (7 ∷ [])) begun_is (writes named long_named r u named_first)

    read_back_is : read_back r l ≡ loaded true listed
    unfolding read_back
    read_back_is = leads (read_plan 1 0 1 1) written_is (reads listed long_listed r u listed_first 1 1 refl)

    pub listing_is : listing r l ≡ loaded true listed
    unfolding listing
    listing_is = leads (read_plan 1 0 2 1) read_back_is (reads_not listed long_listed r u listed_first 2 1 refl)

    pub answered : (w : Worked) → w.context_index ≡ 0 → w.object_index ≡ 1 → w.byte_read ≡ 7 →
        w.past_the_end ≡ record { number = number_of OutOfRange; letter = letter_of (layer_of OutOfRange); task = 1; place = 0; selector = 0 } → Answers w r l
    answered w c o b x =
        record {
          task_answers_the_index_of_its_context = rw c (answers (task_plan 1 4) refl (tasks l h));
          place_answers_the_next_index = rw o (answers (place_plan 1 2 0 0) tasked_is (places cleared long_cleared));
          grant_is_made = answers (grant_plan 1 0 0 1 1 r) placed_is (grants ready long_ready r u);
          seal_is_made = answers seal_plan granted_is (seals named long_named);
          write_is_made = answers (write_plan 1 0 1 (7 ∷ [])) begun_is (writes named long_named r u named_first);
          read_answers_what_was_written = rw b (answers (read_plan 1 0 1 1) written_is (reads listed long_listed r u listed_first 1 1 refl) ∙ ap Ok listed_byte);
          read_past_the_end_is_refused = rw x (refuses (read_plan 1 0 2 1) read_back_is OutOfRange 1 0 0 (reads_not listed long_listed r u listed_first 2 1 refl));
        }

  -- the bytes after the listing with rights 35, in the call, after it and after the creation
  abbrev pub start : List ℕ
  start = listed 35 usable_35

  abbrev pub inner_cleared : List ℕ
  inner_cleared = write_run start 2066 (replicate 16 0)

  abbrev pub in_call : List ℕ
  in_call = write_run inner_cleared 2078 (word_bytes 0)

  abbrev pub after_call : List ℕ
  after_call = write_run in_call 2060 (word_bytes 0)

  abbrev pub new_cleared : List ℕ
  new_cleared = write_run after_call 2066 (replicate 1 0)

  abbrev pub after_create : List ℕ
  after_create = write_run new_cleared 2056 (word_bytes new_word)

  long_inner_cleared : 18432 ≤ length inner_cleared
  long_inner_cleared = stays start 2066 (replicate 16 0) (long_listed 35 usable_35)

  long_in_call : 18432 ≤ length in_call
  long_in_call = stays inner_cleared 2078 (word_bytes 0) long_inner_cleared

  long_after_call : 18432 ≤ length after_call
  long_after_call = stays in_call 2060 (word_bytes 0) long_in_call

  long_new_cleared : 18432 ≤ length new_cleared
  long_new_cleared = stays after_call 2066 (replicate 1 0) long_after_call

  pub long_after_create : 18432 ≤ length after_create
  long_after_create = stays new_cleared 2056 (word_bytes new_word) long_new_cleared

  in_call_kept : (k : ℕ) → k + 4 ≤ 2066 → word_at in_call k ≡ word_at start k
  in_call_kept k d = word_elsewhere inner_cleared 2078 (word_bytes 0) k (inl (omega arith)) ∙ word_elsewhere start 2066 (replicate 16 0) k (inl d)

  in_call_null : word_at in_call 2074 ≡ 0
  in_call_null = word_elsewhere inner_cleared 2078 (word_bytes 0) 2074 (inl (omega arith)) ∙ word_cleared start 2066 16 2074 (omega arith) (omega arith) (omega (arith, long_listed 35 usable_35))

  after_call_second : word_at after_call 2056 ≡ 0
  after_call_second = word_elsewhere in_call 2060 (word_bytes 0) 2056 (inl (omega arith)) ∙ in_call_kept 2056 (omega arith) ∙ listed_second 35 usable_35

  pub after_create_second : word_at after_create 2056 ≡ new_word
  after_create_second = word_written new_cleared 2056 new_word (omega (arith, long_new_cleared)) (encode_small new_descriptor small_new)

  pub call_made : Gives (call_plan 1 4 4) (loaded true start) (Ok tt) (inner in_call)
  call_made = calls start (long_listed 35 usable_35) (listed_second 35 usable_35)

  pub return_made : Gives (return_plan 1 4) (inner in_call) (Ok tt) (loaded true after_call)
  return_made = returns in_call long_in_call 35 usable_35 (in_call_kept 2060 (omega arith) ∙ listed_first 35 usable_35) refl in_call_null

  pub create_made : Gives (create_plan 1 4 1 0) (loaded true after_call) (Ok tt) (with_new 1 after_create)
  create_made = creates after_call long_after_call after_call_second 1 refl refl

  pub called_is : called l ≡ inner in_call
  unfolding called
  called_is = leads (call_plan 1 4 4) (listing_is 35 usable_35) call_made

  pub returned_is : returned l ≡ loaded true after_call
  unfolding returned
  returned_is = leads (return_plan 1 4) called_is return_made

  pub created_is : created l ≡ with_new 1 after_create
  unfolding created
  created_is = leads (create_plan 1 4 1 0) returned_is create_made
