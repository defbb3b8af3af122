use Rattle.std.proofs.Common.{◌≡◌, ℕ, suc, ◌+◌, ◌-◌, ◌∷◌, drop, replicate, ap, ◌∙◌, arith, length-set}
use Rattle.std.proofs.lemmas.List.{drop-set}
use Rattle.tables.proofs.padded.PaddedList.pop.Goals as goal

pub invariant_of-self : goal.invariant_of-self
invariant_of-self g c =
    let n : ℕ = c.self.inside.count in
    let k : ℕ = n - 1 in
    let items = c.self.inside.items in
    let blank = g.T.Item.blank in
    let past : drop (k + 1) items ≡ replicate (g.row.N - n) blank = ap (λ i. drop i items) (omega (arith, c.if-self-gt0.true)) ∙ c.self.invariant.2 in
    let more : suc (g.row.N - n) ≡ g.row.N - k = omega (arith, c.if-self-gt0.true, c.self.invariant.0) in (
      omega (arith, c.self.invariant.0),
      length-set items k c.blank.result ∙ c.self.invariant.1,
      drop-set items k c.blank.result (omega (arith, c.if-self-gt0.true, c.self.invariant.0, c.self.invariant.1)) ∙ ap (λ x. x ∷ drop (k + 1) items) c.blank.ensures ∙ ap (λ xs. blank ∷ xs) past ∙ ap (λ i. replicate i blank) more,
    )
