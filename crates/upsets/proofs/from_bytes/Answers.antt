use Rattle.std.proofs.Common.{◌≡◌, ℕ, ◌+◌, replicate, ap, ◌∙◌, arith}
use Rattle.magnetometer.specs.Upsets.{flipped}
use Rattle.upsets.proofs.from_bytes.Goals as goal

pub returns : goal.returns
returns c =
    let byte : ℕ = c.args.byte in
    let place : byte ≡ 0 + byte = omega arith in
    c.read_plain.ensures.shows c.args.record (replicate 6 0) byte c.args.bit (omega arith)
    (c.flip_in_byte.ensures ∙ ap (λ i. flipped c.store.new.memory i c.args.bit) place ∙ ap (λ m. flipped m (0 + byte) c.args.bit) c.store.ensures)
