-- The lines of a text, taken one after the other.
use Rattle.std.proofs.Common.{◌≡◌, ℕ, ◌<◌, Bool, true, false, cond, eqb, List, [], ◌∷◌, ◌++◌, length, Some, None, Option, Bor, refl, ap, ◌∙◌, arith}
use Rattle.std.proofs.lemmas.List.{append_assoc, append-nil}
use Rattle.std.specs.Option.{option_map, unwrap_or}
use Rattle.rules.specs.State.{State}
use Rattle.runs.specs.Runs.{Request, run}
use Rattle.script.specs.Answers.{answers, printed_line, requests_of, rest_of, state_after}
use Rattle.script.specs.Lines.{line_of}
use Rattle.script.specs.Text.{before, behind, joined, lines_of}

lines_by : (b : ℕ) (e : Bool) (bs : List ℕ) → cond e ([] ∷ lines_of bs) (joined b (lines_of bs)) ≡ cond e [] (b ∷ before 10 bs) ∷ lines_of (rest_of (cond e (Some bs) (behind 10 bs)))
unfolding before behind lines_of
lines_by b true bs = refl
lines_by b false [] = refl
lines_by b false (c ∷ bs) = ap (joined b) (lines_by c (eqb c 10) bs)

pub lines_next : (t : List ℕ) → 0 < length t → lines_of t ≡ before 10 t ∷ lines_of (rest_of (behind 10 t))
unfolding before behind lines_of
lines_next [] h = absurd (omega arith)
lines_next (b ∷ bs) h = lines_by b (eqb b 10) bs

pub lines_none : (t : List ℕ) → length t ≡ 0 → lines_of t ≡ []
unfolding lines_of
lines_none [] e = refl
lines_none (b ∷ bs) e = absurd (omega arith)

rest_or_none : (o : Option (Bor (List ℕ))) (none : Bor (List ℕ)) → none.now ≡ [] → (unwrap_or o none).now ≡ rest_of (option_map (λ x. x.now) o)
rest_or_none None none e = e
rest_or_none (Some x) none e = refl

-- the first line taken, and what is left
pub line_taken :
    (t line : List ℕ) (others : Option (Bor (List ℕ))) (none rest : Bor (List ℕ)) → 0 < length t → line ≡ before 10 t → option_map (λ x. x.now) others ≡ behind 10 t → none.now ≡ [] →
    rest ≡ unwrap_or others none → lines_of t ≡ line ∷ lines_of rest.now
line_taken t line others none rest h first behind_it empty left = rw (left, rest_or_none others none empty, behind_it, first) (lines_next t h)

-- what is printed, and what the other lines print, is all that the lines print; so with the calls that were made
pub record Turn (out : List ℕ) (ls all : List (List ℕ)) (s begin : State) : Type 0 where
  pub printed : out ++ answers ls s ≡ answers all begin
  pub made : run (requests_of ls) s ≡ run (requests_of all) begin

pub run_after : (o : Option Request) (ls : List (List ℕ)) (l : List ℕ) (s : State) → line_of l ≡ o → run (requests_of ls) (state_after o s) ≡ run (requests_of (l ∷ ls)) s
unfolding run
run_after None ls l s e = rw e
run_after (Some r) ls l s e = rw e

-- one line later_lines, the others to come
pub turn :
    (out more l : List ℕ) (ls all : List (List ℕ)) (s begin next : State) → more ≡ out ++ printed_line (line_of l) s → next ≡ state_after (line_of l) s →
    Turn out (l ∷ ls) all s begin → Turn more ls all next begin
unfolding answers
turn out more l ls all s begin next m n t = record {
  printed = rw (m, n, append_assoc) t.printed;
  made = rw n (run_after _ ls l s refl) ∙ t.made;
}

-- no line left
pub turned : (out : List ℕ) (all : List (List ℕ)) (s begin : State) → Turn out [] all s begin → (out ≡ answers all begin) × (s ≡ run (requests_of all) begin)
unfolding answers run
turned out all s begin t = (rw append-nil at t.printed, t.made)
