-- The trees of a cluster.
use Rattle.std.specs.Prelude.{ℕ, Bool, false, ◌&&◌, List, filter, filter_map, length, slice_get, Option, Some, None, option_map, option_and_then, is_none, if◌then◌else◌}
use Rattle.asking_commands.specs.Prelude.{Attached, BookState, Connecting, Detached, Instance, IoState, Line, No, ServerNo, Settings, SourceState}
use Rattle.asking_commands.specs.Prelude.{StateWord, Version, Without, Yes, above, book_forest, flat_map, instance_at, label_at, range_with_len}
use Rattle.asking_commands.specs.Prelude.{server_at, walk_of}
use Rattle.asking_commands.specs.Prelude.line
use Rattle.asking_commands.specs.Prelude.state
use Rattle.asking_commands.specs.Asking.{is_of_cluster}

-- attached, with both threads on and the receiver connected
abbrev pub replicates : IoState → Bool → Bool
replicates Yes sql = sql
replicates Connecting sql = false
replicates No sql = false

abbrev pub state_by_source : SourceState → Bool → StateWord
state_by_source Without replicating = state.Ok
state_by_source (Attached source) replicating = if replicating then state.Ok else state.Stopped
state_by_source (Detached source) replicating = state.Detached

abbrev pub state_of : Instance → StateWord
state_of i = if i.valid then state_by_source i.seen.source (replicates i.seen.io i.seen.sql) else state.Unreachable

abbrev pub version_of : Option Settings → Version
version_of None = record { major = 0; minor = 0; patch = 0 }
version_of (Some s) = s.version

abbrev pub instance_line : BookState → ℕ → ServerNo → Instance → Line
instance_line b depth server i = line.Instance depth server (state_of i) (version_of (slice_get b.settings server.0)) i.seen.read_only

-- the line of a node, by its rank and its depth
abbrev pub node_line : BookState → ℕ × ℕ → Option Line
node_line b node = option_and_then (λ server. option_map (instance_line b node.1 server) (instance_at b server)) (server_at b node.0)

-- a tree's lines: the root, then the trees of its children in name order
abbrev pub tree_lines : BookState → List (Option ℕ) → ℕ → List Line
tree_lines b forest root = filter_map (node_line b) (walk_of forest root)

abbrev pub passes_at : (ServerNo → Bool) → Option ServerNo → Bool
passes_at passes None = false
passes_at passes (Some server) = passes server

-- a root of the cluster
abbrev pub is_root_of : BookState → List (Option ℕ) → List ℕ → ℕ → Bool
is_root_of b forest label node = is_none (above forest node) && passes_at (is_of_cluster b label) (server_at b node)

abbrev pub cluster_trees : BookState → List (Option ℕ) → List ℕ → List Line
cluster_trees b forest label = flat_map (tree_lines b forest) (filter (is_root_of b forest label) (range_with_len 0 (length forest)))

-- all trees of the instance's cluster, by the names of their roots
unfoldable pub topology_of : BookState → ServerNo → List Line
topology_of b i = cluster_trees b (book_forest b) (label_at b i)
