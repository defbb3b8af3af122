-- What holds of each item of a list.
use Rattle.std.proofs.Common.{◌≡◌, ℕ, zero, suc, ◌<◌, List, [], ◌∷◌, ◌++◌, length, get_or, All, sym, subst, arith}
use Rattle.std.proofs.lemmas.List.Elements.{All-append}

-- one more item of which it holds
pub all_more : {X : Type 0} (P : X → Type 0) (xs ys : List X) (x : X) → ys ≡ xs ++ x ∷ [] → All P xs → P x → All P ys
all_more {X} P xs ys x e all one = subst (All P) (sym e) (All-append P xs (x ∷ []) all single)
  where
    single : (k : ℕ) (d : X) → k < length (x ∷ []) → P (get_or (x ∷ []) k d)
    single zero d h = one
    single (suc k) d h = absurd (omega arith)
