-- Servers by their names.
use Rattle.std.specs.Prelude.{ℕ, ◌==◌, ◌≡◌, List, [], length, map, slice_index_or, AllPairs}
use Rattle.std.specs.List.{enumerate_from, position_or_len, range_with_len}
use Rattle.std.specs.List.Sorted.{IsPermutation}
use Rattle.std.specs.Ordering.{ordering_then, nat_cmp}
use Rattle.std.specs.declared.cmp.Ordering.{Ordering}
use Rattle.std.specs.declared.cmp.Ordering.TheVariants.{Less}
use Rattle.orch_base.specs.Names.{HostPort, name_cmp}
use Rattle.orch_base.specs.declared.server.ServerNo.{ServerNo}
use Rattle.name_order.specs.Sorts.{sort_by}

-- which of two servers, each by number and name, comes first: by name, of equal names by number
abbrev pub order_of : ℕ × HostPort → ℕ × HostPort → Ordering
order_of one other = ordering_then (name_cmp one.1 other.1) (nat_cmp one.0 other.0)

abbrev pub server_of : ℕ × HostPort → ServerNo
server_of server = record { 0 = server.0 }

-- the servers' numbers, by the order of their names
unfoldable pub by_name : List HostPort → List ServerNo
by_name names = map server_of (sort_by order_of (enumerate_from 0 names))

-- each number below the length is once
abbrev pub IsOrder : List ServerNo → Type 0
IsOrder order = IsPermutation (range_with_len 0 (length order)) (map (λ server. server.0) order)

-- a server's place in an order
abbrev pub rank_of : List ServerNo → ℕ → ℕ
rank_of order number = position_or_len (λ other. other.0 == number) order

-- the place of each server
abbrev pub ranks_of : List ServerNo → List ℕ
ranks_of order = map (rank_of order) (range_with_len 0 (length order))

-- the name at a server's number
abbrev pub named : List HostPort → ServerNo → ℕ × HostPort
named names server = (server.0, slice_index_or names server.0 (record { host = []; port = 0 }))

-- each server is before those after it, by name, and by number if the names are equal
abbrev pub IsRising : List HostPort → List ServerNo → Type 0
IsRising names order = AllPairs (λ one other. order_of (named names one) (named names other) ≡ Less) order
