-- A store that was just made is sound, and a sound store stays sound when it is sealed.
use Rattle.std.proofs.Common.{◌≡◌, ℕ, true, List, [], Some, None, refl, arith}
use Rattle.rules.specs.declared.entry.Entry.{Entry}
use Rattle.rules.specs.declared.entry.Entry.TheVariants.{Object, Control, Refined}
use Rattle.rules.specs.State.{State, empty, entry, level, no_table, stack, table}
use Rattle.rules.specs.Effects.{sealing}
use Rattle.soundness.specs.Sound.{Sound}
use Rattle.soundness.proofs.Overwrites.{retouched_sound}
use Rattle.store.proofs.Orders.{all_default}

module _ (l : List ℕ) where
  no_entries : (t : ℕ) → table (empty l) t ≡ no_table
  unfolding empty table
  no_entries t = all_default 9 t no_table

  no_stack : (q : ℕ) → stack (empty l) q ≡ []
  unfolding empty stack
  no_stack q = all_default {X = List ℕ} 9 q []

  no_level : (q : ℕ) → level (empty l) q ≡ 0
  unfolding level
  no_level q = rw (no_stack q)

  absent : {A : Type 0} (t i : ℕ) (e : Entry) → entry (empty l) t i ≡ Some e → A
  unfolding entry
  absent t i e h = let none : None ≡ Some e = rw (no_entries t) at h in absurd cc

  pub empty_sound : Sound (empty l)
  unfolding empty
  empty_sound =
      record {
        nine_tables = refl;
        nine_stacks = refl;
        few_entries = λ t. rw (no_entries t) (omega arith);
        small_claim = λ t. rw (no_entries t) (omega arith);
        large_bank = λ t i e h. absent t i e h;
        in_claim = λ t i o h. absent t i (Object o) h;
        in_order = λ t i j o p l h. absent t i (Object o) h;
        apart = λ t i u j o p a h. absent t i (Object o) h;
        inside = λ t i r h. absent t i (Refined r) h;
        kinds = λ t i o h. absent t i (Object o) h;
        controls = λ t i c h. absent t i (Control c) h;
        rising = λ t i j e f l h. absent t i e h;
        few_levels = λ q. rw (no_level q) (omega arith);
        no_higher = λ t i e h. absent t i e h;
        nobody = no_level 0;
        contexts = λ q. rw (no_stack q) tt;
        no_others = λ t i e h. absent t i e h;
        loading = λ f t. rw (no_level t) (omega arith);
        loaded = λ f t i e h. absent t i e h;
        slots = λ t i o h. absent t i (Object o) h;
      }

pub sealing_sound : (s : State) → Sound s → Sound (sealing s)
unfolding sealing
sealing_sound s g = retouched_sound s true s.bytes g (λ f. absurd cc) refl g.slots
