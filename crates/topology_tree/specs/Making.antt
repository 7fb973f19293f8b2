-- The forest of a list of sources, computed.
use Rattle.std.specs.Prelude.{ℕ, Bool, if◌then◌else◌, List, length, map, Option, None}
use Rattle.orch_base.specs.Chains.{is_reached}
use Rattle.std.specs.List.{range_with_len}
use Rattle.topology_tree.specs.Forests.{above}

-- the node comes back to itself by following sources; that takes no more steps than there are nodes
abbrev pub comes_back : List (Option ℕ) → ℕ → Bool
comes_back sources node = is_reached (above sources) (length sources) node node

abbrev pub parent_of : List (Option ℕ) → ℕ → Option ℕ
parent_of sources node = if comes_back sources node then None else above sources node

-- the parents of all nodes
unfoldable pub forest_of : List (Option ℕ) → List (Option ℕ)
forest_of sources = map (parent_of sources) (range_with_len 0 (length sources))
