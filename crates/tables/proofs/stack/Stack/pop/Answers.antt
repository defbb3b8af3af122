use Rattle.std.proofs.Common.{◌≡◌, ℕ, ◌+◌, ◌-◌, List, [], ◌∷◌, length, get_or, reverse, take, refl, sym, ap, ◌∙◌, arith}
use Rattle.std.proofs.lemmas.List.{take_all, take_more, reverse-append}
use native.Mathlib.Numerals.{unary_clauses}
use Rattle.rules.specs.Effects.{popped}
use Rattle.tables.proofs.stack.Stack.pop.Goals as goal

-- the last item is the first from the end
but_last : (xs : List ℕ) → reverse (take (length xs - 1) xs) ≡ popped (reverse xs)
but_last [] = refl
but_last (x ∷ xs) =
    let n : ℕ = length xs in
    let all : take (n + 1) (x ∷ xs) ≡ x ∷ xs = take_all (n + 1) (x ∷ xs) (omega arith) in
    simp unary_clauses (sym (ap popped (ap reverse (sym all ∙ take_more (x ∷ xs) n 0 (omega arith)) ∙ reverse-append (take n (x ∷ xs)) (get_or (x ∷ xs) n 0 ∷ []))))

pub returns : goal.returns
returns c = rw (c.pop.ensures, ← c.self.view_is) (but_last c.self.inside.contexts)
