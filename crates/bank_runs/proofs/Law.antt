-- What a bank means is all that calls can tell of it.
use Rattle.std.proofs.Common.{◌≡◌, ℕ, List, [], length, replicate, sym, ap, ◌∙◌}
use Rattle.std.proofs.lemmas.List.{length-replicate}
use Rattle.bank.specs.Runs.{read_run}
use Rattle.bank.proofs.RunLaws.{read_run_whole}
use Rattle.bank_runs.specs.Calls.{Outcome, answered, outcome}
use Rattle.bank_runs.specs.Runs.{outcomes, run}
use Rattle.bank_runs.specs.Theorem.{Indistinguishable, FullAbstraction, size_and_bytes}
use Rattle.bank_runs.specs.declared.call.Query.TheVariants.{Size, ReadRun}

module _ (l m : List ℕ) (same : outcomes (size_and_bytes (length l)) l ≡ outcomes (size_and_bytes (length l)) m) where
  zeros : List ℕ
  zeros = replicate (length l) 0

  answers : (answered Size [] l ≡ answered Size [] m) × (answered (ReadRun 0) zeros l ≡ answered (ReadRun 0) zeros m)
  unfolding outcomes outcome zeros
  answers = (cc, cc)

  same_length : length l ≡ length m
  same_length = let e = ap (λ (o : Outcome). o.answer) answers.0 in cc

  same_run : read_run l 0 (length l) ≡ read_run m 0 (length l)
  unfolding zeros
  same_run = rw (length-replicate {A = ℕ} (length l) 0) at (ap (λ (o : Outcome). o.buffer) answers.1)

  same_bytes : l ≡ m
  same_bytes =
      let whole : read_run m 0 (length l) ≡ m = rw same_length (read_run_whole m) in
      sym (read_run_whole l) ∙ same_run ∙ whole

untold : (l m : List ℕ) → Indistinguishable l m → l ≡ m
untold l m same = same_bytes l m (same (size_and_bytes (length l)))

pub full_abstraction : FullAbstraction
full_abstraction =
    record {
      same_bytes = λ l m. (untold l m, λ e. λ rs. ap (outcomes rs) e);
      equal_afterwards = λ l m same rs. ap (run rs) (untold l m same);
      two_calls_tell = same_bytes;
    }
