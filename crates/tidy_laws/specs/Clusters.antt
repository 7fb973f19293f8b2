-- Of which cluster each server is: that never changes.
use Rattle.std.specs.Prelude.{◌≡◌, ℕ, List, [], Option, Some, None}
use Rattle.tidy_laws.specs.Prelude.{Server, World, server_at}

-- the clusters by the servers' numbers
abbrev pub Clusters : Type 0
Clusters = ℕ → Option (List ℕ)

abbrev pub cluster_in : Option Server → Option (List ℕ)
cluster_in None = None
cluster_in (Some s) = Some s.settings.cluster

-- the label of a cluster, empty if there is no server
abbrev pub label : Option (List ℕ) → List ℕ
label None = []
label (Some cluster) = cluster

-- two servers have one label
abbrev pub AreAlike : Clusters → ℕ → ℕ → Type 0
AreAlike c n m = label (c n) ≡ label (c m)

-- the cluster of a server of a world
abbrev pub cluster_at : World → Clusters
cluster_at w n = cluster_in (server_at w n)
