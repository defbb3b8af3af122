use Rattle.std.proofs.Common.{◌≡◌, ℕ, ◌<◌, true, get_or, rules}
use Rattle.hamming.specs.Code.{codes, code_word}
use Rattle.hamming.proofs.Computed.{at_each}
use Rattle.hamming.proofs.Corrects.{only_word, word_back, upset_back}
use Rattle.hamming.proofs.encode.Goals as goal

pub returns : goal.returns
returns c =
    let b : ℕ = c.args.byte in
    let small : b < 256 = search rules in
    let w : ℕ = get_or c.code_words.result.now b 0 in
    let kept : codes b w ≡ true = at_each codes c.code_words.result.now c.code_words.ensures b (search rules) in
    let same : w ≡ code_word b = only_word b w kept in
    record { value = same; rule = kept; back = rw same (word_back b small); upset = λ k l u. rw same (upset_back b k small l u) }
