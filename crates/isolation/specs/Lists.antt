-- Lists of requests that are run on a store.
use Rattle.std.specs.Prelude.{◌≡◌, ℕ, Bool, false, List, take}
use Rattle.rules.specs.State.{State}
use Rattle.runs.specs.Requests.{IsRun, listed}
use Rattle.runs.specs.declared.request.Request.{Request as CodedRequest}
use Rattle.isolation.specs.Share.{Alike}
use Rattle.isolation.specs.Theorem.{StaysInItsShare}

-- task P sees no difference between two lists that were run on stores in states s and u, which are
-- then in states s' and u'; the answer is b
pub record NoneSeen (P : ℕ) (xs ys : List CodedRequest) (s u s' u' : State) (b : Bool)
    : Type 0 where
  pub none : b ≡ false
  -- the stores are alike in its share
  pub still_alike : Alike P s' u'
  -- and none of its calls has changed anything outside its share
  pub in_its_share : StaysInItsShare P (listed xs) s
  pub in_its_share_too : StaysInItsShare P (listed ys) u

-- memory ran out: the first of the list were run, and no call of task P among them has changed
-- anything outside its share
pub record StoppedInItsShare (P : ℕ) (xs : List CodedRequest) (s u : State) : Type 0 where
  pub made : ℕ
  pub is_run : IsRun (take made xs) s u
  pub in_its_share : StaysInItsShare P (listed (take made xs)) s
