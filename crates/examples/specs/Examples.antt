-- What the worked examples say.
use Rattle.std.specs.Prelude.{◌≡◌, ℕ, ◌+◌, List, [], ◌∷◌, map, Some, Ok, Err}
use Rattle.hamming.specs.Code.{code_word, decoded}
use Rattle.bank.specs.Runs.{read_run}
use Rattle.rules.specs.declared.fault.Reason.{Reason}
use Rattle.rules.specs.Faults.{number_of, layer_of, letter_of}
use Rattle.rules.specs.declared.shown.Place.{Place}
use Rattle.rules.specs.State.{State, empty, stack, shown, slot_at, held}
use Rattle.rules.specs.Tests.{refusal_at}
use Rattle.rules.specs.Effects.{next_index, put}
use Rattle.rules.specs.Loading.{task_plan, place_plan, grant_plan, seal_plan}
use Rattle.rules.specs.Operators.{null_plan, create_plan, read_plan, write_plan, see_plan, call_plan, return_plan}
use Rattle.examples.specs.declared.Refusal.{Refusal}
use Rattle.examples.specs.declared.Worked.{Worked}
use Rattle.examples.specs.Listing.{Plan, Gives, answer, tasked, placed, granted, begun, written, read_back, listing, called, returned, created}

-- a call is refused with a fault of these numbers, and changes nothing
pub record Refused {X : Type 0} (plan : Plan X) (s : State) (x : Refusal) : Type 0 where
  pub reason : Reason
  pub faults : Gives plan s (Err (refusal_at reason x.task x.place x.selector)) s
  pub number : number_of reason ≡ x.number
  pub letter : letter_of (layer_of reason) ≡ x.letter

-- what the calls of the listing answer
pub record Answers (w : Worked) (rights : ℕ) (l : List ℕ) : Type 0 where
  pub task_answers_the_index_of_its_context : answer (task_plan 1 4) (empty l) ≡ Ok w.context_index
  pub place_answers_the_next_index : answer (place_plan 1 2 0 0) (tasked l) ≡ Ok w.object_index
  pub grant_is_made : answer (grant_plan 1 0 0 1 1 rights) (placed l) ≡ Ok tt
  pub seal_is_made : answer seal_plan (granted rights l) ≡ Ok tt
  pub write_is_made : answer (write_plan 1 0 1 (7 ∷ [])) (begun rights l) ≡ Ok tt
  pub read_answers_what_was_written :
      answer (read_plan 1 0 1 1) (written rights l) ≡ Ok (w.byte_read ∷ [])
  pub read_past_the_end_is_refused : Refused (read_plan 1 0 2 1) (read_back rights l) w.past_the_end

-- slot 0 of the first context of task 1
abbrev pub first_slot : State → Place
first_slot s = record { by = shown s 1 0; at = 0 }

-- the examples over a bank of these bytes
pub record Examples (w : Worked) (l : List ℕ) : Type 0 where
  pub the_listing_is_answered : Answers w 3 l
  pub the_grant_puts_its_word_and_no_more :
      granted 3 l ≡ put (first_slot (placed l)) w.granted_word (placed l)
  pub the_slot_holds_the_word_of_the_grant :
      held (listing 3 l) (first_slot (listing 3 l)) ≡ w.granted_word
  pub the_word_lies_with_its_low_byte_first :
      read_run (listing 3 l).bytes (slot_at (shown (listing 3 l) 1 0) 0) 4 ≡ w.granted_bytes
  pub bytes_have_these_code_words : map code_word (0x01 ∷ 0x80 ∷ 0xff ∷ []) ≡ w.code_words
  pub words_with_a_turned_bit_read_as_these_bytes : map decoded (0x006 ∷ 0x801 ∷ []) ≡ w.corrected
  pub a_read_of_no_bytes_may_begin_at_the_end :
      answer (read_plan 1 0 w.last_offset 0) (listing 3 l) ≡ Ok []
  pub a_read_of_no_bytes_may_not_begin_past_the_end :
      Refused (read_plan 1 0 (w.last_offset + 1) 0) (listing 3 l) w.past_the_end
  pub the_largest_object_is_created :
      answer (create_plan 1 4 w.largest_creation 0) (listing 3 l) ≡ Ok tt
  pub one_byte_more_has_no_room :
      Refused (create_plan 1 4 (w.largest_creation + 1) 0) (listing 3 l) w.no_room
  pub a_descriptor_without_delete_is_kept : Refused (null_plan 1 0) (listing 3 l) w.not_deletable
  pub a_null_environment_has_no_destination :
      Refused (null_plan 1 5) (listing 3 l) w.null_environment
  pub a_null_environment_has_no_source : Refused (see_plan 1 5) (listing 3 l) w.null_environment
  pub the_listing_with_delete_is_answered : Answers w 35 l
  pub call_is_made : answer (call_plan 1 4 4) (listing 35 l) ≡ Ok tt
  pub call_opens_a_context_at_the_next_index :
      stack (called l) 1 ≡ w.reused_index ∷ w.context_index ∷ []
  pub return_is_made : answer (return_plan 1 4) (called l) ≡ Ok tt
  pub return_leaves_the_first_context : stack (returned l) 1 ≡ w.context_index ∷ []
  pub create_is_made : answer (create_plan 1 4 1 0) (returned l) ≡ Ok tt
  pub create_takes_the_index_of_the_ended_context :
      answer (see_plan 1 4) (created l)
      ≡ Ok (Some (record { table = 1; index = w.reused_index; rights = 63 }))
  pub the_created_object_is_the_last_entry : next_index (created l) 1 ≡ w.reused_index + 1
