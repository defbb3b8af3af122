use Rattle.std.proofs.Common.{ℕ, List, refl}
use Rattle.hamming.specs.Code.{code_word, data_bits, syndrome}
use Rattle.bank.specs.Runs.{read_run}
use Rattle.rules.specs.declared.fault.Reason.TheVariants.{NullEnvironment, NotDeletable, OutOfRange, NoRoom}
use Rattle.bank.specs.Words.{word_bytes}
use Rattle.rules.specs.State.{table, stack, entry, shown, held, encode}
use Rattle.rules.specs.Effects.{overwrite, put}
use Rattle.rules.specs.Operators.{null_plan, create_plan, read_plan, see_plan, call_plan, return_plan}
use Rattle.examples.proofs.Stages.{usable_3, usable_35, reads, reads_not, creates, creates_not, nulls_not, nulls_not_first, sees, sees_not}
use Rattle.examples.proofs.Listed.{answers, refuses, listed, long_listed, listed_first, listed_second, listed_bytes, placed_is, granted_is, listing_is, answered, call_made, called_is, return_made, returned_is, create_made, created_is, long_after_create, after_create_second}
use Rattle.examples.proofs.worked_examples.Goals as goal

pub returns : goal.returns
unfolding read_run put overwrite table stack entry shown held encode word_bytes code_word data_bits syndrome
returns c l h =
    let m : List ℕ = listed l h 3 usable_3 in
    let long = long_listed l h 3 usable_3 in
    let first = listed_first l h 3 usable_3 in
    let second = listed_second l h 3 usable_3 in
    let here = listing_is l h 3 usable_3 in
    record {
      the_listing_is_answered = answered l h 3 usable_3 _ refl refl refl refl;
      the_grant_puts_its_word_and_no_more = rw (granted_is l h 3 usable_3, placed_is l h);
      the_slot_holds_the_word_of_the_grant = rw here first;
      the_word_lies_with_its_low_byte_first = rw here (listed_bytes l h 3 usable_3);
      bytes_have_these_code_words = refl;
      words_with_a_turned_bit_read_as_these_bytes = refl;
      a_read_of_no_bytes_may_begin_at_the_end = answers (read_plan 1 0 _ 0) here (reads m long 3 usable_3 first _ 0 refl);
      a_read_of_no_bytes_may_not_begin_past_the_end = refuses (read_plan 1 0 _ 0) here OutOfRange 1 0 0 (reads_not m long 3 usable_3 first _ 0 refl);
      the_largest_object_is_created = answers (create_plan 1 4 _ 0) here (creates m long second _ refl refl);
      one_byte_more_has_no_room = refuses (create_plan 1 4 _ 0) here NoRoom 1 0 0 (creates_not m long second _ refl refl);
      a_descriptor_without_delete_is_kept = refuses (null_plan 1 0) here NotDeletable 1 1 0 (nulls_not_first m long 3 usable_3 first refl);
      a_null_environment_has_no_destination = refuses (null_plan 1 5) here NullEnvironment 1 1 5 (nulls_not m long second);
      a_null_environment_has_no_source = refuses (see_plan 1 5) here NullEnvironment 1 1 5 (sees_not m long second);
      the_listing_with_delete_is_answered = answered l h 35 usable_35 _ refl refl refl refl;
      call_is_made = answers (call_plan 1 4 4) (listing_is l h 35 usable_35) (call_made l h);
      call_opens_a_context_at_the_next_index = rw (called_is l h);
      return_is_made = answers (return_plan 1 4) (called_is l h) (return_made l h);
      return_leaves_the_first_context = rw (returned_is l h);
      create_is_made = answers (create_plan 1 4 1 0) (returned_is l h) (create_made l h);
      create_takes_the_index_of_the_ended_context = answers (see_plan 1 4) (created_is l h) (sees _ (long_after_create l h) 1 (after_create_second l h));
      the_created_object_is_the_last_entry = rw (created_is l h);
    }
