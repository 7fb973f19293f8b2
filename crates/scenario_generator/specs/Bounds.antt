-- How large a scenario may be drawn.
use Rattle.std.specs.Prelude.{ℕ, ◌+◌, ◌*◌, ◌/◌, Bool, nat_le}

-- The servers times the transactions that they may come to have are within a scenario's bound: each root of ten lists
-- 20, and each turn writes one at most.
abbrev pub is_drawable : ℕ → ℕ → Bool
is_drawable servers turns = nat_le (servers * (20 * ((servers + 9) / 10) + turns)) 4000000
