-- How a history is made from the parts that are listed, transaction by transaction.
use Rattle.std.specs.Prelude.{◌≡◌, ℕ, ◌<◌, ◌≤◌, List, length, All, Some, slice_get, slice_index}
use Rattle.openings.specs.Prelude.{Txn, count_own}
use Rattle.openings.specs.declared.init.ServerInit.{ServerInit}
use Rattle.openings.specs.Listed.{transactions}
use Rattle.openings.specs.Servers.{parts_of}
use Rattle.openings.specs.Opening.{IsPart}

-- what each server lists is of these servers, in the ranges of sizes and counts
pub record PartsInRange (servers : List ServerInit) : Type 0 where
  pub each : (n : ℕ) (i : ServerInit) → slice_get servers n ≡ Some i → All (IsPart (length servers)) (parts_of i)
  pub few : (n : ℕ) (i : ServerInit) → slice_get servers n ≡ Some i → transactions (parts_of i) ≤ 4000000

-- a transaction takes 1 to 1,000,000 bytes
pub record HasSize (t : Txn) : Type 0 where
  pub some : 1 ≤ t.size
  pub few : t.size ≤ 1000000

-- the table has the number of each origin's transactions
pub record CountsOwn (counts : List ℕ) (history : List Txn) : Type 0 where
  pub each : (o : ℕ) → o < length counts → slice_index counts o ≡ count_own o history
