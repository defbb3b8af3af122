-- The length and the first line of a script.
use Rattle.std.proofs.Common.{◌≡◌, ℕ, Bool, true, false, List, [], ◌∷◌, Some, None, Option, Bor, refl, ap, arith}
use Rattle.std.specs.Prelude.{codes, not}
use Rattle.std.specs.Option.{MatchOption, option_eq}
use Rattle.std.specs.Str.{bytes_eq}
use Rattle.script.specs.Text.{before, behind, lines_of}
use Rattle.script.specs.Answers.{is_header, rest_of}
use Rattle.script.proofs.Turns.{lines_next}

-- whether a line is there and is the header
abbrev pub headed : Option (Bor (List ℕ)) → Bool
headed None = false
headed (Some line) = is_header line.now

unequal : (b x y : Bool) → b ≡ not x → x ≡ y → y ≡ not b
unequal b true y e f = rw (e, ← f)
unequal b false y e f = rw (e, ← f)

headed_is : (r : Option (Bor (List ℕ))) (h : Bor (List ℕ)) → h.now ≡ codes "do task a b c d e f" → option_eq (λ (x y : Bor (List ℕ)). bytes_eq x.now y.now) r (Some h) ≡ headed r
headed_is None h e = refl
headed_is (Some x) h e = ap (bytes_eq x.now) e

-- what `!=` with the header says
pub headed_by : (r : Option (Bor (List ℕ))) (h : Bor (List ℕ)) (b : Bool) → h.now ≡ codes "do task a b c d e f" → b ≡ not (option_eq (λ (x y : Bor (List ℕ)). bytes_eq x.now y.now) r (Some h)) → headed r ≡ not b
headed_by r h b e f = unequal b _ _ f (headed_is r h e)

-- the first line of a text, and the lines after it
pub first_line :
    (t rest : List ℕ) (r : Option (Bor (List ℕ))) → MatchOption r ((lines_of t ≡ []) × (lines_of rest ≡ [])) (λ line. lines_of t ≡ line.now ∷ lines_of rest) →
    (is_header (before 10 t) ≡ headed r) × (headed r ≡ true → lines_of (rest_of (behind 10 t)) ≡ lines_of rest)
unfolding before lines_of
first_line [] rest None e = (refl, λ h. cc)
first_line [] rest (Some line) e = absurd (cc e)
first_line (b ∷ bs) rest None e = absurd (cc (e.0, lines_next (b ∷ bs) (omega arith)))
first_line (b ∷ bs) rest (Some line) e =
    let next = lines_next (b ∷ bs) (omega arith) in
    let same : before 10 (b ∷ bs) ≡ line.now = cc (e, next) in
    (ap is_header same, λ h. cc (e, next))
