use Rattle.std.proofs.Common.{◌≡◌, ℕ, ◌<◌, List, length, get_or, sym, rules}
use Rattle.magnetometer.proofs.Halves.{joined, six}
use Rattle.magnetometer.proofs.RecordFromArrayU86.from.Goals as goal

pub returns : goal.returns
returns c =
    let l : List ℕ = c.args.bytes in
    let long : length l ≡ 6 = search rules in
    let small : (i : ℕ) → get_or l i 0 < 256 = λ i. search rules in
    let x = joined (get_or l 0 0) (get_or l 1 0) c.reading.result (small 0) (small 1) c.reading.ensures in
    let y = joined (get_or l 2 0) (get_or l 3 0) c.reading-2.result (small 2) (small 3) c.reading-2.ensures in
    let z = joined (get_or l 4 0) (get_or l 5 0) c.reading-3.result (small 4) (small 5) c.reading-3.ensures in
    rw (x.0, x.1, y.0, y.1, z.0, z.1) (sym (six l long))
