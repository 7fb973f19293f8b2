use Rattle.std.specs.Prelude.{◌≡◌, ℕ, ◌<◌, ◌^◌, List, length, Option, Some, None, zero, suc, if◌then◌else◌}
use Rattle.topology_tree.specs.Following.{Grounded}
use Rattle.topology_tree.specs.Forests.{above, is_child, IsClosed}

-- the last child of p among so many first nodes
abbrev pub last_below : List (Option ℕ) → ℕ → ℕ → Option ℕ
last_below forest p zero = None
last_below forest p (suc n) = if is_child forest p n then Some n else last_below forest p n

-- each node's last child, and each child's sibling before it
pub record IsLinked (forest last earlier : List (Option ℕ)) : Type 0 where
  pub last_len : length last ≡ length forest
  pub earlier_len : length earlier ≡ length forest
  pub last_of : (p : ℕ) → p < length forest → above last p ≡ last_below forest p (length forest)
  pub earlier_of : (n p : ℕ) → above forest n ≡ Some p → above earlier n ≡ last_below forest p n

-- a forest's edges: in range and without a loop
pub record IsForest (forest : List (Option ℕ)) : Type 0 where
  pub few : length forest < 2 ^ 32
  pub closed : IsClosed forest
  pub ends : (n : ℕ) → Grounded (above forest) n
