-- Where two texts part.
use Rattle.std.proofs.Common.{◌≡◌, ℕ, suc, ◌+◌, Bool, true, false, cond, eqb, List, [], ◌∷◌, take, refl, ap, arith, add-one}
use Rattle.std.proofs.lemmas.Bool.{eqb-true, eqb-false}
use Rattle.std.specs.Prelude.{◌≢◌}
use Rattle.std.specs.List.{prefix_len, zip}

-- how many bytes at the front are the same
abbrev pub alike : List ℕ → List ℕ → ℕ
alike xs ys = prefix_len (λ p. eqb p.0 p.1) (zip xs ys)

-- so many bytes, and no more
abbrev pub PartAt : List ℕ → List ℕ → ℕ → Type 0
PartAt xs ys k = (take k xs ≡ take k ys) × (take (k + 1) xs ≢ take (k + 1) ys)

grow : (x : ℕ) (xs ys : List ℕ) (k : ℕ) → PartAt xs ys k → PartAt (x ∷ xs) (x ∷ ys) (1 + k)
grow x xs ys k p =
    let one : 1 + k ≡ suc k = omega arith in
    let more = rw (add-one k) at p.1 in
    rw (one, add-one (suc k)) (ap (λ l. x ∷ l) p.0, λ e. more (cc e))

pub parted : (xs ys : List ℕ) → xs ≢ ys → PartAt xs ys (alike xs ys)
parted [] [] n = absurd (n refl)
parted [] (y ∷ ys) n = (refl, λ e. cc e)
parted (x ∷ xs) [] n = (refl, λ e. cc e)
parted (x ∷ xs) (y ∷ ys) n = by (eqb x y) refl (parted xs ys)
  where
    by : (b : Bool) → eqb x y ≡ b → (xs ≢ ys → PartAt xs ys (alike xs ys)) → PartAt (x ∷ xs) (y ∷ ys) (cond b (1 + alike xs ys) 0)
    by true e behind =
        let same : x ≡ y = eqb-true x y e in
        rw (← same) (grow x xs ys (alike xs ys) (behind (λ h. n (cc (same, h)))))
    by false e behind = (refl, λ h. eqb-false x y e (cc h))
