use Rattle.std.proofs.Common.{◌≡◌, ℕ, ◌+◌, ◌-◌, ◌≤◌, drop, take, length, replicate, sym, ap, ◌∙◌, arith, length-set, length-take-le}
use Rattle.std.proofs.lemmas.List.{drop-drop, drop-replicate, drop-set-lt}
use Rattle.tables.proofs.padded.PaddedList.push.Goals as goal

pub invariant_of-self : goal.invariant_of-self
invariant_of-self g c =
    let n : ℕ = c.self.inside.count in
    let size : length (take n c.self.inside.items) ≡ n = length-take-le n c.self.inside.items (omega (arith, c.self.invariant.0, c.self.invariant.1)) in
    let fewer : n + 1 ≤ g.row.N = omega (arith, c.requires, ap length c.self.view_is, size) in
    let past : drop 1 (drop n c.self.inside.items) ≡ replicate (g.row.N - n - 1) g.T.Item.blank = ap (drop 1) c.self.invariant.2 ∙ drop-replicate 1 (g.row.N - n) g.T.Item.blank in (
      fewer,
      length-set c.self.inside.items n c.args.item ∙ c.self.invariant.1,
      drop-set-lt (n + 1) c.self.inside.items n c.args.item (omega arith) ∙ sym (drop-drop 1 n c.self.inside.items) ∙ past ∙ ap (λ k. replicate k g.T.Item.blank) (omega arith),
    )
