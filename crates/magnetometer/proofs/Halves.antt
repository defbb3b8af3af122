-- A signed number of 16 bits and its two bytes, and a record and its six.
use Rattle.std.proofs.Common.{◌≡◌, ℕ, zero, suc, lit<, ◌+◌, ◌*◌, ◌/◌, ◌%◌, ◌^◌, ◌<◌, List, [], ◌∷◌, length, get_or, ℤ, sym, refl, ap, ◌∙◌, arith, w16, SFits, to_z, of_z}
use Rattle.magnetometer.specs.declared.Record.{Record}
use Rattle.magnetometer.specs.Records.{record_bytes}
use mir.ValLaws.{of_z_fits}
use Rattle.std.proofs.lemmas.List.FromFn.{fill_by_all}
use Rattle.std.proofs.lemmas.Int.{to_z-of_z, of_z-to_z}

-- the number that two bytes make has these two bytes
pub joined : (a b : ℕ) (z : ℤ) → a < 256 → b < 256 → z ≡ to_z w16 (a + b * 256) → (of_z w16 (to_z w16 (of_z w16 z)) % 256 ≡ a) × (of_z w16 (to_z w16 (of_z w16 z)) / 256 % 256 ≡ b)
joined a b z p q e =
    let small : a + b * 256 < 2 ^ 16 = omega arith in
    let bits : of_z w16 z ≡ a + b * 256 = ap (of_z w16) e ∙ of_z-to_z w16 (a + b * 256) small in
    let again : of_z w16 (to_z w16 (of_z w16 z)) ≡ a + b * 256 = ap (λ (n : ℕ). of_z w16 (to_z w16 n)) bits ∙ of_z-to_z w16 (a + b * 256) small in
    (rw again (omega arith), rw again (omega arith))

-- a number is known by its two bytes
pub same_number : (y z : ℤ) → SFits w16 y → SFits w16 z → of_z w16 y % 256 ≡ of_z w16 z % 256 → of_z w16 y / 256 % 256 ≡ of_z w16 z / 256 % 256 → y ≡ z
same_number y z p q low high =
    let small : of_z w16 y < 65536 = (of_z_fits w16 y p).fits in
    let also : of_z w16 z < 65536 = (of_z_fits w16 z q).fits in
    let bits : of_z w16 y ≡ of_z w16 z = omega arith in
    sym (to_z-of_z w16 y p) ∙ ap (to_z w16) bits ∙ to_z-of_z w16 z q

-- six bytes, one by one
pub six : (l : List ℕ) → length l ≡ 6 → l ≡ get_or l 0 0 ∷ get_or l 1 0 ∷ get_or l 2 0 ∷ get_or l 3 0 ∷ get_or l 4 0 ∷ get_or l 5 0 ∷ []
six l e = fill_by_all (λ i. get_or l i 0) l 6 0 e (λ k h. refl)

-- and a record by its six
as_record : ℤ → ℤ → ℤ → Record
as_record x y z = record { x = x; y = y; z = z }

pub same_record : (u v : Record) → SFits w16 u.x → SFits w16 u.y → SFits w16 u.z → SFits w16 v.x → SFits w16 v.y → SFits w16 v.z → record_bytes u ≡ record_bytes v → u ≡ v
unfolding as_record
same_record u v a b c d e f h =
    let byte : (i : ℕ) → get_or (record_bytes u) i 0 ≡ get_or (record_bytes v) i 0 = λ i. ap (λ (l : List ℕ). get_or l i 0) h in
    let x : u.x ≡ v.x = same_number u.x v.x a d (byte 0) (byte 1) in
    let y : u.y ≡ v.y = same_number u.y v.y b e (byte 2) (byte 3) in
    let z : u.z ≡ v.z = same_number u.z v.z c f (byte 4) (byte 5) in
    ap (λ (n : ℤ). as_record n u.y u.z) x ∙ ap (λ (n : ℤ). as_record v.x n u.z) y ∙ ap (as_record v.x v.y) z

-- each of its six is a byte
pub byte_below : (v : Record) (i : ℕ) → get_or (record_bytes v) i 0 < 256
byte_below v zero = omega arith
byte_below v (suc zero) = omega arith
byte_below v (suc (suc zero)) = omega arith
byte_below v (suc (suc (suc zero))) = omega arith
byte_below v (suc (suc (suc (suc zero)))) = omega arith
byte_below v (suc (suc (suc (suc (suc zero))))) = omega arith
byte_below v (suc (suc (suc (suc (suc (suc i)))))) = lit< tt
