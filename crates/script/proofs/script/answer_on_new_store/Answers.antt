use Rattle.std.proofs.Common.{◌≡◌, ℕ, replicate, vec_items, ◌∙◌, arith}
use Rattle.std.proofs.lemmas.List.{take_all, length-replicate}
use Rattle.bank.specs.Units.{used}
use Rattle.script.specs.Answers.{fresh}
use Rattle.script.proofs.script.answer_on_new_store.Goals as goal

all : used {X = ℕ} (replicate 18432 0) ≡ replicate 18432 0
unfolding used
all = take_all 65536 (replicate 18432 0) (omega (arith, length-replicate {A = ℕ} 18432 0))

pub returns : goal.returns
unfolding fresh
returns c =
    let zero_bytes : vec_items c.in_ok-memory.memory ≡ replicate 18432 0 = c.in_ok-memory.ensures.items_if_clones_equal (λ y e. e) in
    let memory : c.new.result.memory.now ≡ replicate 18432 0 = c.new.ensures.value ∙ c.as_mut_slice.ensures.value ∙ zero_bytes in
    rw (← all, ← memory, ← c.new-store.ensures) c.answer_lines.ensures.printed
