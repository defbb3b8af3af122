-- A yes lasts, whatever calls come; and who asks in two stores needs no other reason to know that
-- the task is separate.
use Rattle.std.proofs.Common.{◌≡◌, ℕ, ◌≤◌, true, List, [], ◌∷◌, length, Some, ap, refl, inl, inr, arith}
use Rattle.std.proofs.lemmas.Bool.{cases_lt, le-leb}
use Rattle.rules.specs.declared.entry.Entry.TheVariants.{Object}
use Rattle.rules.specs.State.{State, entry, level, stack}
use Rattle.rules.specs.Tests.{operator}
use Rattle.runs.specs.Runs.{Request, run}
use Rattle.soundness.specs.Sound.{AreContexts, In, IsContext, Sound}
use Rattle.soundness.proofs.Entries.{known_task}
use Rattle.soundness.proofs.Origins.{Calls, operator_finds}
use Rattle.soundness.proofs.Returns.{entries_last}
use Rattle.isolation.specs.Share.{Separate}
use Rattle.isolation.specs.Theorem.{AreComparable}
use Rattle.isolation.proofs.Runs.{Fine, fine_run, isolated}
use Rattle.isolation.proofs.Starts.{sealed_sound}
use Rattle.sharing.specs.Question.{AreKnown, IsAnswer, IsolationByAnswers, SaysYes, YesLasts}

-- a yes is true
pub is_separate : (P : ℕ) (s : State) → SaysYes P s → Separate P s
is_separate P s (IsAnswer.told b c found tells) = tells.0 refl

-- and the task of which it is told is loaded, in a sealed store over a large bank
calling : (P : ℕ) (s : State) → SaysYes P s → (c : ℕ) × Calls s P c
calling P s (IsAnswer.told b c found tells) = (c, rw found at (operator_finds s P))

-- of such a task that is separate the answer is yes
says_yes : (P : ℕ) (s : State) → 18432 ≤ length s.bytes → s.sealed ≡ true → (b : ℕ) → In b (stack s P) → Separate P s → SaysYes P s
unfolding operator
says_yes P s large sealed b stands apart = go (stack s P) refl stands
  where
    go : (cs : List ℕ) → stack s P ≡ cs → In b cs → SaysYes P s
    go [] is x = elim x [ ]
    go (c ∷ cs) is x = IsAnswer.told true c (rw (is, le-leb 18432 (length s.bytes) large, sealed) refl) (λ _. apart, λ _. refl)

-- the outermost context of a task is an entry of level 1
outermost : (P : ℕ) (s : State) (c : ℕ) (cs : List ℕ) → AreContexts s P (c ∷ cs) → (b : ℕ) × IsContext s P 1 b
outermost P s c [] are = (c, are.0)
outermost P s c (d ∷ ds) are = outermost P s d ds are.1

-- which lasts, so that the task stays loaded
stays_open : (P : ℕ) (s : State) (rs : List Request) → Sound s → Sound (run rs s) → (c : ℕ) → Calls s P c → (b : ℕ) × In b (stack (run rs s) P)
stays_open P s rs g h c at =
    let (b, x) = outermost P s c at.outer (rw at.on_top at (g.contexts P)) in
    let there : entry (run rs s) P b ≡ Some (Object x.object) = entries_last s rs g P b (Object x.object) x.is_there (omega (arith, x.is_level)) in
    (b, h.no_others P b (Object x.object) there x.is_context)

pub yes_lasts : YesLasts
yes_lasts P s g answer rs =
    let (c, at) = calling P s answer in
    let f : Fine P s = record { sound = g; sealed = at.sealed; large = at.large; apart = is_separate P s answer } in
    let h : Fine P (run rs s) = fine_run P rs s f in
    let (b, stands) = stays_open P s rs g h.sound c at in
    says_yes P (run rs s) h.large h.sealed b stands h.apart

-- the task is one of the eight
from_1 : (P : ℕ) (s : State) → Sound s → (c : ℕ) → Calls s P c → 1 ≤ P
unfolding level
from_1 P s g c at =
    elim (cases_lt 0 P) [
      | inl more ↦ more
      | inr none ↦
          let zero : P ≡ 0 = omega (arith, none) in
          let no : length (stack s P) ≡ 0 = rw zero g.nobody in
          let some : length (stack s P) ≡ length (c ∷ at.outer) = ap length at.on_top in
          absurd (omega arith)
    ]

pub are_comparable : (P : ℕ) (s u : State) (ls rs : List Request) → AreKnown P s u ls rs → AreComparable P s u ls rs
are_comparable P s u ls rs k =
    let g : Sound s = sealed_sound s k.sealed in
    let (c, at) = calling P s k.yes in
    record {
      from_1 = from_1 P s g c at;
      to_8 = omega (arith, known_task s g P c at.outer at.on_top);
      sealed = k.sealed;
      sealed_too = k.sealed_too;
      alike = k.alike;
      separate = is_separate P s k.yes;
      separate_too = is_separate P u k.yes_too;
      same_calls = k.same_calls;
    }

pub isolated_by_answers : IsolationByAnswers
isolated_by_answers P s u ls rs k = isolated P s u ls rs (are_comparable P s u ls rs k)
