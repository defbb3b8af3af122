-- What the values of the code stand for, and what it means that a list of them was run.
use Rattle.std.specs.Prelude.{◌≡◌, ℕ, List, map}
use Rattle.bank_runs.specs.Runs.{Request, run}
use Rattle.bank_runs.specs.declared.request.Request.{Request as CodedRequest}

abbrev pub request_of : CodedRequest → Request
request_of r = record { call = r.call; bytes = r.bytes.now }

-- the requests that a list of the code stands for
abbrev pub listed : List CodedRequest → List Request
listed xs = map request_of xs

-- the list was run on a bank that meant l, and then means m
abbrev pub IsRun : List CodedRequest → List ℕ → List ℕ → Type 0
IsRun xs l m = m ≡ run (listed xs) l
