-- What is said of the words, refinements and contexts of a table lasts while the entries that it
-- may name stay.
use Rattle.std.proofs.Common.{◌≡◌, ℕ, ◌<◌, ◌≤◌, List, [], ◌∷◌, length, Some, sym, refl, ◌∙◌, arith}
use Rattle.rules.specs.declared.entry.Entry.{Entry}
use Rattle.rules.specs.declared.entry.Entry.TheVariants.{Object}
use Rattle.rules.specs.declared.entry.Refinement.{Refinement}
use Rattle.rules.specs.State.{State, entry, level_of}
use Rattle.soundness.specs.Sound.{AreContexts, Inside, NullOrLive}
use Rattle.soundness.specs.Sound.NullOrLive.{names, null}
use Rattle.rules.proofs.Words.{named_entry, names_by_entry}

-- the entries that an object or a refinement of table t and level n may name stay from s to u
abbrev pub Last : State → State → ℕ → ℕ → Type 0
Last s u t n = (a i : ℕ) (x : Entry) → entry s a i ≡ Some x → level_of x ≤ n → (1 ≤ level_of x → a ≡ t) → entry u a i ≡ Some x

pub word_lasts : (s u : State) (t n w : ℕ) → Last s u t n → NullOrLive s t n w → NullOrLive u t n w
word_lasts s u t n w last (null z) = null z
word_lasts s u t n w last (names d h m) =
    let old = named_entry s w d h in
    let now : entry u d.table d.index ≡ Some old.0 = last d.table d.index old.0 old.1 (rw old.1 at m.no_higher) (rw old.1 at m.at_home) in
    let same : entry u d.table d.index ≡ entry s d.table d.index = now ∙ sym old.1 in
    names d (names_by_entry s u w d h (rw now)) (record { no_context = rw same m.no_context; no_higher = rw same m.no_higher; at_home = rw same m.at_home })

pub inside_lasts : (s u : State) (t : ℕ) (r : Refinement) → Last s u t r.level → Inside s t r → Inside u t r
inside_lasts s u t r last h =
    record {
      object = h.object;
      is_there = last r.table r.index (Object h.object) h.is_there h.no_higher h.at_home;
      bytes_inside = h.bytes_inside;
      slots_inside = h.slots_inside;
      no_context = h.no_context;
      no_higher = h.no_higher;
      at_home = h.at_home;
    }

-- what comes before a context in u came before it in s
pub contexts_last : (s u : State) (q : ℕ) (cs : List ℕ) → Last s u q (length cs) → ((i c : ℕ) (x y : Entry) → i < c → entry u q i ≡ Some x → entry s q c ≡ Some y → entry s q i ≡ Some x) → AreContexts s q cs → AreContexts u q cs
contexts_last s u q [] last before h = tt
contexts_last s u q (c ∷ cs) last before (x, h) = (
  record {
    object = x.object;
    is_there = last q c (Object x.object) x.is_there (omega (arith, x.is_level)) (λ _. refl);
    is_context = x.is_context;
    is_level = x.is_level;
    has_slots = x.has_slots;
    few_slots = x.few_slots;
    no_bytes = x.no_bytes;
    is_first = λ two i e less there. x.is_first two i e less (before i c e (Object x.object) less there x.is_there);
  },
  contexts_last s u q cs (λ a i e there low. last a i e there (omega arith)) before h,
)
