-- Laws of chains.
use Rattle.std.proofs.Common.{◌≡◌, ℕ, zero, suc, ◌<◌, ◌⊎◌, true, List, [], ◌∷◌, ◌++◌, Some, All, sym, subst, inl, inr, arith}
use Rattle.std.proofs.lemmas.List.Elements.{All-append, All-nil}
use Rattle.std.specs.List.{slice_get}
use Rattle.rules.specs.declared.descriptor.Descriptor.{Descriptor}
use Rattle.rules.specs.declared.shown.Shown.{Shown}
use Rattle.rules.specs.State.{State, has, held, named, read, shown, stack}
use Rattle.soundness.specs.Sound.{In, below, here}
use Rattle.isolation.specs.Reach.{HasSlot, Obtains, Side, amplified, in_context, in_shown}
use Rattle.mission.specs.Chains.{Amplifies, Follows, Grows, IsChain, IsHeldBy, RestsOn, amplified_by, first, later, more, named_at, same, shown_to}
use Rattle.mission.specs.declared.chain.Link.{Link}
use Rattle.mission.specs.declared.chain.Link.TheVariants.{Amplified, Context}
use Rattle.mission.specs.declared.chain.Step.{Step}

-- growth by steps of one relation is growth by those of a weaker one
pub grows_if : (R S : List Step → Step → Type 0) (xs ys : List Step) → ((zs : List Step) (z : Step) → R zs z → S zs z) → Grows R xs ys → Grows S xs ys
grows_if R S xs _ weaker same = same
grows_if R S xs _ weaker (more ys y g r) = more ys y (grows_if R S xs ys weaker g) (weaker ys y r)

-- growth after growth
pub grows_on : (R : List Step → Step → Type 0) (xs ys zs : List Step) → Grows R xs ys → Grows R ys zs → Grows R xs zs
grows_on R xs ys _ g same = g
grows_on R xs ys _ g (more zs z h r) = more zs z (grows_on R xs ys zs g h) r

-- one step added, or none
pub grows_by : (R : List Step → Step → Type 0) (xs ys zs : List Step) (x : Step) → Grows R xs ys → R ys x → (zs ≡ ys) ⊎ (zs ≡ ys ++ x ∷ []) → Grows R xs zs
grows_by R xs ys zs x g r (inl e) = subst (Grows R xs) (sym e) g
grows_by R xs ys zs x g r (inr e) = subst (Grows R xs) (sym e) (more ys x g r)

-- a step keeps its number
pub named_append : (xs ys : List Step) (n : ℕ) (d : Descriptor) → named_at xs n ≡ Some d → named_at (xs ++ ys) n ≡ Some d
named_append [] ys n d e = cc
named_append (x ∷ xs) ys zero d e = e
named_append (x ∷ xs) ys (suc n) d e = named_append xs ys n d e

pub named_lasts : (R : List Step → Step → Type 0) (xs ys : List Step) (n : ℕ) (d : Descriptor) → Grows R xs ys → named_at xs n ≡ Some d → named_at ys n ≡ Some d
named_lasts R xs _ n d same e = e
named_lasts R xs _ n d (more ys y g r) e = named_append ys (y ∷ []) n d (named_lasts R xs ys n d g e)

-- an open context is on the stack
pub is_open : (cs : List ℕ) (n c : ℕ) → slice_get cs n ≡ Some c → In c cs
is_open [] n c e = cc
is_open (b ∷ cs) zero c e = let found : b ≡ c = cc in subst (λ (k : ℕ). In k (b ∷ cs)) found here
is_open (b ∷ cs) (suc n) c e = below (is_open cs n c e)

-- what a slot of an open context holds is added, if it is new
pub held_added :
    (s : State) (q c k : ℕ) (v : Shown) (d : Descriptor) (xs ys zs : List Step) → In c (stack s q) → v ≡ shown s q c → k < v.slots →
    named s (held s (record { by = v; at = k })) ≡ Some d → Grows (λ _ x. IsHeldBy s q x) xs ys →
    (zs ≡ ys) ⊎ (zs ≡ ys ++ record { link = Context q c k; descriptor = d } ∷ []) → Grows (λ _ x. IsHeldBy s q x) xs zs
held_added s q c k v d xs ys zs i is less names g e =
    let slot : HasSlot s (shown s q c) k d = subst (λ (w : Shown). HasSlot s w k d) is (less, names) in
    grows_by (λ _ x. IsHeldBy s q x) xs ys zs (record { link = Context q c k; descriptor = d }) g (IsHeldBy.held c k d i slot) e

-- so is what an earlier step is shown
pub shown_added :
    (s : State) (n k : ℕ) (v : Shown) (e d : Descriptor) (xs ys zs : List Step) → named_at xs n ≡ Some e → has read e.rights ≡ true → v ≡ shown s e.table e.index → k < v.slots →
    named s (held s (record { by = v; at = k })) ≡ Some d → Grows (RestsOn s) xs ys →
    (zs ≡ ys) ⊎ (zs ≡ ys ++ record { link = Link.Shown n k; descriptor = d } ∷ []) → Grows (RestsOn s) xs zs
shown_added s n k v e d xs ys zs by right is less names g alt =
    let slot : HasSlot s (shown s e.table e.index) k d = subst (λ (w : Shown). HasSlot s w k d) is (less, names) in
    grows_by (RestsOn s) xs ys zs (record { link = Link.Shown n k; descriptor = d }) g (shown_to n k e d (named_lasts (RestsOn s) xs ys n e g by) right slot) alt

-- and what one step makes of another
pub amplified_added :
    (s : State) (m n : ℕ) (c e d : Descriptor) (xs zs : List Step) → named_at xs m ≡ Some c → named_at xs n ≡ Some e → Amplifies s c e d →
    (zs ≡ xs) ⊎ (zs ≡ xs ++ record { link = Amplified m n; descriptor = d } ∷ []) → Grows (RestsOn s) xs zs
amplified_added s m n c e d xs zs by of a alt =
    grows_by (RestsOn s) xs xs zs (record { link = Amplified m n; descriptor = d }) same (amplified_by m n c e d by of a) alt

-- a chain goes on by contexts of the side, and by what rests on it
pub chain_held : (s : State) (A : Side) (q : ℕ) (xs ys : List Step) → A q → IsChain s A xs → Grows (λ _ x. IsHeldBy s q x) xs ys → IsChain s A ys
chain_held s A q xs ys m chain g =
    grows_on (Follows s A) [] xs ys chain (grows_if (λ _ x. IsHeldBy s q x) (Follows s A) xs ys (λ zs z h. first q z m h) g)

pub chain_rests : (s : State) (A : Side) (xs ys : List Step) → IsChain s A xs → Grows (RestsOn s) xs ys → IsChain s A ys
chain_rests s A xs ys chain g =
    grows_on (Follows s A) [] xs ys chain (grows_if (RestsOn s) (Follows s A) xs ys (λ zs z h. later z h) g)

-- the steps of a chain are obtained
module _ (s : State) (A : Side) where
  obtained_at : (xs : List Step) (n : ℕ) (d : Descriptor) → All (λ (x : Step). Obtains s A x.descriptor) xs → named_at xs n ≡ Some d → Obtains s A d
  obtained_at [] n d all e = cc
  obtained_at (x ∷ xs) zero d all e = let found : x.descriptor ≡ d = cc in subst (Obtains s A) found (all 0 x (omega arith))
  obtained_at (x ∷ xs) (suc n) d all e = obtained_at xs n d (λ k y h. all (suc k) y (omega arith)) e

  obtained_next : (xs : List Step) (x : Step) → All (λ (y : Step). Obtains s A y.descriptor) xs → Follows s A xs x → Obtains s A x.descriptor
  obtained_next xs _ all (first q _ m (IsHeldBy.held c k d i slot)) = in_context q c k d m i slot
  obtained_next xs _ all (later _ (shown_to n k e d is right slot)) = in_shown e k d (obtained_at xs n e all is) right slot
  obtained_next xs _ all (later _ (amplified_by m n c e d by of a)) = subst (Obtains s A) (sym a.sum) (amplified c e a.control (obtained_at xs m c all by) a.has_right a.is_control (obtained_at xs n e all of) a.same_type)

  only_one : (x : Step) → Obtains s A x.descriptor → All (λ (y : Step). Obtains s A y.descriptor) (x ∷ [])
  only_one x o zero d h = o
  only_one x o (suc k) d h = absurd (omega arith)

  pub all_obtained : (xs : List Step) → IsChain s A xs → All (λ (x : Step). Obtains s A x.descriptor) xs
  all_obtained _ same = All-nil (λ (x : Step). Obtains s A x.descriptor)
  all_obtained _ (more xs x g f) =
      let before = all_obtained xs g in
      All-append (λ (y : Step). Obtains s A y.descriptor) xs (x ∷ []) before (only_one x (obtained_next xs x before f))
