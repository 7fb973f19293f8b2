-- The servers: trees of ten, each server below an earlier one of its ten.
use Rattle.std.specs.Prelude.{◌≡◌, ◌≤◌, ◌<◌, ℕ, zero, suc, ◌+◌, ◌*◌, ◌/◌, ◌%◌, ◌==◌, ◌∷◌, ◌++◌, List, [], length, if◌then◌else◌, Option, Some, None, slice_get, slice_index}
use Rattle.scenario_generator.specs.declared.server.DrawnServer.{DrawnServer}
use Rattle.scenario_generator.specs.declared.server.DrawnServer.TheVariants.{Root, Replica}
use Rattle.scenario_generator.specs.Numbers.{Drawing, below, next, none_drawn}

-- how many transactions a server has executed
abbrev pub count_of : DrawnServer → ℕ
count_of Root = 20
count_of (Replica source executed) = executed

abbrev pub count_in : Option DrawnServer → ℕ
count_in None = 0
count_in (Some s) = count_of s

-- the count of the server of a number
abbrev pub count_at : List DrawnServer → ℕ → ℕ
count_at servers m = count_in (slice_get servers m)

-- the first of a server's ten
abbrev pub root_of : ℕ → ℕ
root_of n = n / 10 * 10

-- server n replicates from an earlier one of its ten
abbrev pub source_by : ℕ → ℕ → ℕ
source_by n x = root_of n + below (n % 10) (next x)

-- and has executed at most as many transactions as that one, whose number `count` gives
abbrev pub executed_by : (ℕ → ℕ) → ℕ → ℕ → ℕ
executed_by count n x = below (count (source_by n x) + 1) (next (next x))

-- server n: the first of each ten is a root
abbrev pub server_by : (ℕ → ℕ) → ℕ → ℕ → DrawnServer
server_by count n x = if n % 10 == 0 then Root else Replica (source_by n x) (executed_by count n x)

abbrev pub after_server : ℕ → ℕ → ℕ
after_server n x = if n % 10 == 0 then x else next (next x)

-- server n is drawn
abbrev pub with_server : ℕ → Drawing DrawnServer → Drawing DrawnServer
with_server n d = record {
  drawn = d.drawn ++ server_by (count_at d.drawn) n d.number ∷ [];
  number = after_server n d.number;
}

-- the first so many servers
unfoldable pub servers_from : ℕ → ℕ → Drawing DrawnServer
servers_from seed zero = none_drawn seed
servers_from seed (suc n) = with_server n (servers_from seed n)

-- ---- counts that are kept for the servers of one ten

-- there are ten, none of which is above 20
pub record AreFew (counts : List ℕ) : Type 0 where
  pub ten : length counts ≡ 10
  pub few : (k : ℕ) → slice_index counts k ≤ 20

-- the servers of the last ten have these counts
abbrev pub AreCounts : List ℕ → List DrawnServer → ℕ → Type 0
AreCounts counts servers n = (m : ℕ) → root_of n ≤ m → m < n → slice_index counts (m % 10) ≡ count_at servers m
