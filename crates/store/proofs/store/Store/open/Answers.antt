use Rattle.std.proofs.Common.{◌≡◌, ℕ, ◌+◌, ◌*◌, ◌<◌, List, [], ◌∷◌, true, get_or, length, refl, ap, sym, ◌∙◌, arith}
use Rattle.std.proofs.lemmas.Grind.{common_steps}
use Rattle.std.proofs.lemmas.List.{get_or_default}
use Rattle.rules.specs.declared.entry.Entry.{Entry}
use Rattle.rules.specs.Effects.{add, grown, new_object, next_index, with_stack}
use Rattle.rules.specs.State.{State, level, stack, table}
use Rattle.rules.specs.Tests.{has_room}
use Rattle.tables.specs.Live.{state_of}
use Rattle.store.proofs.Orders.{entered, grew, made_stacks, orderly_entered}
use Rattle.store.proofs.store.Store.open.Goals as goal

-- the context is the object that was made, and stands at the index that was answered
record Made (s u : State) (q k i : ℕ) : Type 0 where
  has : has_room (table s q) (4 * k) ≡ true
  index : i ≡ next_index s q
  after : u ≡ add q (new_object s q 0 k 1 (level s q + 1)) s

made : (g : _) (c : goal.After-index-stacks-index g) → Made c.args.self.now c.make.new.self c.args.task c.args.slots c.in_ok-index.index
unfolding level stack
made g c =
    let s : State = c.args.self.now in
    let ks : List (List ℕ) = c.self.inside.directory.stacks in
    let value = c.in_ok-index.ensures.value in
    let extent = c.extent.ensures in
    let after = c.make.ensures.after in
    let height : c.level-level.result ≡ length (get_or s.stacks c.args.task []) =
    c.level-level.ensures.value ∙ ap length (get_or_default ks c.index.result c.index-self-index.result [] (omega (arith, c.self.inside.directory.each))) ∙ ap (λ i. length (get_or ks i [])) c.index.ensures.value ∙ ap (λ (x : State). length (get_or x.stacks c.args.task [])) c.self.view_is in
    record { has = grind (arith, common_steps); index = grind (arith, common_steps); after = grind (arith, common_steps) }

pub push-requires : goal.push-requires
unfolding level stack
push-requires g c =
    let s : State = c.args.self.now in
    let u : State = state_of c.self-2.inside.directory (g.B.Bank.bytes c.self-2.inside.bank) in
    let e : Entry = new_object s c.args.task 0 c.args.slots 1 (level s c.args.task + 1) in
    let same : u.stacks ≡ s.stacks = ap (λ (x : State). x.stacks) c.self-2.view_is ∙ made_stacks s c.make.new.self true c.args.task e (made g c).after in
    rw (get_or_default u.stacks c.index-2.result c.index-stacks-index.result [] (omega (arith, c.self-2.inside.directory.each)), same, c.index-2.ensures.value) c.requires

pub returns-clause-after : goal.returns-clause-after
unfolding with_stack
returns-clause-after g c =
    let s : State = c.args.self.now in
    let u : State = state_of c.self-2.inside.directory (g.B.Bank.bytes c.self-2.inside.bank) in
    let m = made g c.before.before in
    rw m.has (entered s u c.args.task c.args.slots c.in_ok-index.index c.index-2.result c.index-stacks-index.result c.push.new.self (c.self-2.view_is ∙ m.after) m.index c.index-2.ensures.value (omega (arith, c.self-2.inside.directory.each)) c.push.ensures)

pub invariant_of-self : goal.invariant_of-self
unfolding with_stack stack table new_object
invariant_of-self g c =
    let d : State = state_of c.self.inside.directory [] in
    let d' : State = state_of c.self-2.inside.directory [] in
    let s : State = c.args.self.now in
    let q : ℕ = c.index-2.result in
    let e : Entry = new_object s c.args.task 0 c.args.slots 1 (level s c.args.task + 1) in
    let m = made g c.before.before in
    let nine : c.args.task < length s.tables = rw (← c.self.view_is) (omega (arith, c.self.inside.directory.nine)) in
    let parts = grew s c.make.new.self c.args.task e nine m.after in
    let grows : table d' q ≡ grown (table d q) e = rw c.index-2.ensures.value (ap (λ (x : State). table x c.args.task) c.self-2.view_is ∙ parts.0 ∙ ap (λ (x : State). grown (table x c.args.task) e) (sym c.self.view_is)) in
    let same : stack d' q ≡ stack d q = rw c.index-2.ensures.value (ap (λ (x : State). stack x c.args.task) c.self-2.view_is ∙ parts.1 ∙ ap (λ (x : State). stack x c.args.task) (sym c.self.view_is)) in
    let index : c.in_ok-index.index ≡ length (table d q).entries = rw c.index-2.ensures.value (m.index ∙ ap (λ (x : State). length (table x c.args.task).entries) (sym c.self.view_is)) in
    let inside : q < length d'.stacks = omega (arith, c.self-2.inside.directory.each) in
    let pushed : c.push.new.self ≡ c.in_ok-index.index ∷ stack d' q = c.push.ensures ∙ ap (λ (ks : List ℕ). c.in_ok-index.index ∷ ks) (get_or_default d'.stacks q c.index-stacks-index.result [] inside) in
    orderly_entered d d' q c.in_ok-index.index e c.push.new.self inside c.self.invariant c.self-2.invariant refl grows same index pushed
