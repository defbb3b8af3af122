use Rattle.std.proofs.Common.{◌≡◌, ℕ, suc, ◌<◌, Some, None, Option, sym, ◌∙◌, arith}
use Rattle.std.specs.List.{slice_get}
use Rattle.rules.specs.State.{State}
use Rattle.sharing.specs.Search.{last_of}
use Rattle.sharing.proofs.Steps.{IsFirst, first_of, next_of, rest_after, rest_none}
use Rattle.sharing.proofs.gathering.Gathering.widen_all.Invariants.{left}
use Rattle.sharing.proofs.gathering.Gathering.widen_all.Goals as goal
use Rattle.sharing.proofs.gathering.Gathering.widen_all.Goals.{After-after-next}

first : (g : _) (c : After-after-next g) → IsFirst c.args.store.now c.args.kind c.loop-next.invariant.places c.in-Some.position
first g c = first_of c.args.store.now c.args.kind c.loop-next.invariant.places c.in-Some.position (sym c.loop-next.invariant.is_next ∙ c.in-Some.is)

next : (g : _) (c : After-after-next g) → c.after-next.result ≡ slice_get (last_of c.args.store.now c.args.kind (first g c).rest) 0
next g c = c.after-next.ensures ∙ next_of c.args.store.now c.args.types.now c.args.kind c.loop-next.invariant.places c.in-Some.position c.requires.types c.loop-next.invariant.few (first g c)

pub loop-next-preserved : goal.loop-next-preserved
loop-next-preserved g c =
    let f = first g c in
    let i = c.loop-next.invariant in
    record {
      places = f.rest;
      few = omega (arith, f.fewer, i.few);
      is_next = next g c;
      is_rest = rest_after c.args.store.now c.args.kind i.places c.in-Some.position f c.loop-next.self c.widen.new.self _ c.widen.ensures.value i.is_rest;
      listed = c.widen.ensures.listed;
    }

less : (s : State) (kind rest n : ℕ) (x : Option ℕ) → rest < 576 → left (Some n) ≡ suc rest → x ≡ slice_get (last_of s kind rest) 0 → left x < left (Some n)
less s kind rest n None l e is = omega (arith, e)
less s kind rest n (Some m) l e is =
    let f = first_of s kind rest m (sym is) in
    let fewer = f.fewer in
    let m_is = f.is_it in
    omega (arith, e)

pub loop-next-smaller : goal.loop-next-smaller
loop-next-smaller g c =
    let f = first g c in
    let fewer = f.fewer in
    let few = c.loop-next.invariant.few in
    let n_is = f.is_it in
    rw c.in-Some.is (less c.args.store.now c.args.kind f.rest c.in-Some.position c.after-next.result (omega arith) (omega arith) (next g c))

pub returns-clause-value : goal.returns-clause-value
returns-clause-value g c =
    let i = c.loop-next.invariant in
    rest_none c.args.store.now c.args.kind i.places c.loop-next.self _ (sym i.is_next ∙ c.in_default.is) i.is_rest
