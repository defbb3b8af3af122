use borrow.Rule.Slice.PartMut.{put_mid, same_len_mid}
use Rattle.std.proofs.Common.{◌≡◌, ℕ, ◌-◌, ◌≤◌, ◌++◌, drop, take, length, replicate, sym, ap, ◌∙◌, arith, length-take-le, rules}
use Rattle.std.proofs.Math.Seq.{drop-append_seam}
use Rattle.std.proofs.lemmas.List.{drop-drop, replicate-append-replicate}
use Rattle.tables.proofs.padded.PaddedList.truncate.Goals as goal

pub invariant_of-self : goal.invariant_of-self
invariant_of-self g c =
    let n : ℕ = c.self.inside.count in
    let k : ℕ = c.min-kept.result in
    let items = c.self.inside.items in
    let blank = g.T.Item.blank in
    let small : k ≤ n = omega (arith, c.min-kept.ensures) in
    let few : n ≤ length items = omega (arith, c.self.invariant.0, c.self.invariant.1) in
    let size : length (take k items) ≡ k = length-take-le k items (omega arith) in
    let filled : c.fill.new.self ≡ replicate (n - k) blank = c.fill.ensures.after (g.met.T.Item.clones c.blank.result) ∙ rw c.blank.ensures (ap (λ i. replicate i blank) (search rules)) in
    let rest : drop (n - k) (drop k items) ≡ replicate (g.row.N - n) blank = drop-drop (n - k) k items ∙ ap (λ i. drop i items) (omega arith) ∙ c.self.invariant.2 in
    let past : c.fill.new.self ++ drop (n - k) (drop k items) ≡ replicate (g.row.N - k) blank =
    ap (λ xs. xs ++ drop (n - k) (drop k items)) filled ∙ ap (λ xs. replicate (n - k) blank ++ xs) rest ∙ replicate-append-replicate (n - k) (g.row.N - n) blank ∙ ap (λ i. replicate i blank) (omega (arith, c.self.invariant.0)) in (
      omega (arith, c.self.invariant.0),
      same_len_mid k (n - k) items c.fill.new.self c.fill.ensures.len ∙ c.self.invariant.1,
      ap (λ i. drop i (put_mid k (n - k) items c.fill.new.self)) (sym size) ∙ drop-append_seam (take k items) (c.fill.new.self ++ drop (n - k) (drop k items)) ∙ past,
    )
