use Rattle.std.proofs.Common.{◌≡◌, [], ◌∷◌, map, sym, ◌∙◌, rules}
use Rattle.bank.specs.Words.{word_bytes}
use Rattle.bank.proofs.Copies.{four_set}
use Rattle.bank.proofs.lent.encode_word.Goals as goal

pub returns : goal.returns
unfolding word_bytes
returns g c =
    let u = g.U.Unit.unit_of in
    let units : c.encode.result ∷ c.encode-2.result ∷ c.encode-3.result ∷ c.encode-4.result ∷ [] ≡ map u (word_bytes c.args.word) = search rules in
    four_set c.args.units.now c.encode.result c.encode-2.result c.encode-3.result c.encode-4.result c.requires ∙ units ∙ sym (g.met.U.Unit.units_each (word_bytes c.args.word))
