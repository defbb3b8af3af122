-- What a bank means is all that calls can tell of it.
use Rattle.std.specs.Prelude.{◌≡◌, ◌↔◌, ℕ, List, [], ◌∷◌, length, replicate}
use Rattle.bank_runs.specs.Runs.{Request, outcomes, run}
use Rattle.bank_runs.specs.declared.call.Call.TheVariants.{Query as query}
use Rattle.bank_runs.specs.declared.call.Query.TheVariants.{Size, ReadRun}

-- no list of calls tells a bank that means l from one that means m: the outcomes are the same
abbrev pub Indistinguishable : List ℕ → List ℕ → Type 0
Indistinguishable l m = (rs : List Request) → outcomes rs l ≡ outcomes rs m

-- two calls: asking for the size, and reading n bytes from the first on
abbrev pub size_and_bytes : ℕ → List Request
size_and_bytes n =
    record { call = query Size; bytes = [] }
    ∷ record { call = query (ReadRun 0); bytes = replicate n 0 } ∷ []

pub record FullAbstraction : Type 0 where
  -- two banks cannot be told apart exactly if they mean the same bytes
  pub same_bytes : (l m : List ℕ) → Indistinguishable l m ↔ (l ≡ m)
  -- and then they mean the same bytes after every list of calls
  pub equal_afterwards : (l m : List ℕ) → Indistinguishable l m → (rs : List Request) →
      run rs l ≡ run rs m
  -- two calls tell a bank from every bank that means other bytes
  pub two_calls_tell : (l m : List ℕ) →
      outcomes (size_and_bytes (length l)) l ≡ outcomes (size_and_bytes (length l)) m → l ≡ m
