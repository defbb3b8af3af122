-- What the words of descriptors name.
use Rattle.std.proofs.Common.{◌≡◌, ℕ, ◌+◌, ◌*◌, ◌/◌, ◌%◌, ◌<◌, true, ◌&&◌, Some, None, Option, sym, refl, arith}
use Rattle.std.proofs.lemmas.Bool.{and_parts}
use Rattle.std.proofs.lemmas.Option.{cond_some}
use Rattle.rules.specs.declared.entry.Entry.{Entry}
use Rattle.rules.specs.declared.descriptor.Descriptor.{Descriptor}
use Rattle.std.specs.Option.{is_some}
use Rattle.rules.specs.State.{State, entry, named, decode, encode, valid}

-- a descriptor whose parts fit their bits
pub record IsSmall (d : Descriptor) : Type 0 where
  pub table : d.table < 4096
  pub index : d.index < 4096
  pub rights : d.rights < 64

pub decode_encode : (d : Descriptor) → IsSmall d → decode (encode d) ≡ d
unfolding decode encode
decode_encode d b =
    let q : encode d / 33554432 ≡ d.rights = omega (arith, b.table, b.index, b.rights) in
    let m : encode d / 4096 ≡ d.table + 4096 * (1 + 2 * d.rights) = omega (arith, b.table, b.index, b.rights) in
    let x : (decode (encode d)).table ≡ d.table = rw m (omega (arith, b.table)) in
    let y : (decode (encode d)).index ≡ d.index = omega (arith, b.index) in
    let z : (decode (encode d)).rights ≡ d.rights = rw q (omega (arith, b.rights)) in
    rw (x, y, z)

encode_valid : (d : Descriptor) → IsSmall d → valid (encode d) ≡ true
unfolding valid encode
encode_valid d b =
    let set : encode d / 16777216 % 2 ≡ 1 = omega (arith, b.table, b.index, b.rights) in
    let clear : encode d / 2147483648 % 2 ≡ 0 = omega (arith, b.table, b.index, b.rights) in
    rw (set, clear)

pub encode_small : (d : Descriptor) → IsSmall d → encode d < 4294967296
unfolding encode
encode_small d b = omega (arith, b.table, b.index, b.rights)

decode_small : (w : ℕ) → IsSmall (decode w)
unfolding decode
decode_small w = record { table = omega arith; index = omega arith; rights = omega arith }

-- what a word names is what it decodes to, and is there
pub named_is : (s : State) (w : ℕ) (d : Descriptor) → named s w ≡ Some d → (d ≡ decode w) × ((valid w ≡ true) × (is_some (entry s d.table d.index) ≡ true))
unfolding named
named_is s w d e =
    let found = cond_some (valid w && is_some (entry s (decode w).table (decode w).index)) (decode w) d e in
    let parts = and_parts (valid w) (is_some (entry s (decode w).table (decode w).index)) found.0 in
    (sym found.1, (parts.0, rw (← found.1) parts.1))

pub named_entry : (s : State) (w : ℕ) (d : Descriptor) → named s w ≡ Some d → (x : Entry) × (entry s d.table d.index ≡ Some x)
named_entry s w d e = found (entry s d.table d.index) (named_is s w d e).1.1
  where
    found : (o : Option Entry) → is_some o ≡ true → (x : Entry) × (o ≡ Some x)
    found (Some x) h = (x, refl)
    found None h = cc

pub named_small : (s : State) (w : ℕ) (d : Descriptor) → named s w ≡ Some d → IsSmall d
named_small s w d e = rw (named_is s w d e).0 (decode_small w)

names : (s : State) (w : ℕ) (d : Descriptor) → decode w ≡ d → valid w ≡ true → is_some (entry s d.table d.index) ≡ true → named s w ≡ Some d
unfolding named
names s w d same good there = rw (same, good, there)

pub names_encoded : (s : State) (d : Descriptor) (e : Entry) → IsSmall d → entry s d.table d.index ≡ Some e → named s (encode d) ≡ Some d
names_encoded s d e small there = names s (encode d) d (decode_encode d small) (encode_valid d small) (rw there)

pub zero_names_nothing : (s : State) → named s 0 ≡ None
unfolding named valid
zero_names_nothing s = refl

-- a word names the same in any state that has the entry
pub names_by_entry : (s u : State) (w : ℕ) (d : Descriptor) → named s w ≡ Some d → is_some (entry u d.table d.index) ≡ true → named u w ≡ Some d
names_by_entry s u w d e there = let is = named_is s w d e in names u w d (sym is.0) is.1.0 there
