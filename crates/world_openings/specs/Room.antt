-- How much room an opening and a run of exchanges from it take.
use Rattle.std.specs.Prelude.{ℕ, ◌+◌, ◌≤◌, List, length, All, count_by, sum_by}
use Rattle.openings.specs.Listed.{transactions}
use Rattle.openings.specs.Opening.{Opened}
use Rattle.openings.specs.Servers.{parts_of}
use Rattle.server_model.specs.Run.{Exchange, is_write}

-- the transactions that the opening lists, and those that these exchanges may add
abbrev pub room_for : Opened → List Exchange → ℕ
room_for o es = sum_by (λ i. transactions (parts_of i)) o.servers + count_by is_write es

-- beside what each server's flushes take there is room for so many new files
abbrev pub LeavesFiles : ℕ → Opened → ℕ → Type 0
LeavesFiles count o flushes = All (λ i. length i.flushes + count ≤ flushes) o.servers
