-- What a book has of its instances.
use Rattle.std.specs.Prelude.{ℕ, Bool, false, true, ◌&&◌, List, [], ◌∷◌, map, filter, slice_index_or, nat_eq, unwrap_or, if◌then◌else◌}
use Rattle.asking_commands.specs.Prelude.{Attached, BookState, Detached, Line, ServerNo, SourceState, Without, by_name, instance_at, is_instance}
use Rattle.asking_commands.specs.Prelude.{label_at, pointwise, replicas_of, seen_source}
use Rattle.asking_commands.specs.Prelude.line

-- the servers that pass, in name order, each on a line
abbrev pub listed : BookState → (ServerNo → Bool) → List Line
listed b passes = map line.Server (filter passes (by_name b.names))

abbrev pub all_instances : BookState → List Line
all_instances b = listed b (is_instance b)

-- the instances for which the answer is true
abbrev pub found : BookState → List Bool → List Line
found b answers = listed b (λ server. is_instance b server && slice_index_or answers server.0 false)

-- ---- sources

abbrev pub source_line : SourceState → Line
source_line Without = line.NoMaster
source_line (Attached source) = line.Server source
source_line (Detached source) = line.Server source

-- the source, attached or detached
abbrev pub master_of : BookState → ServerNo → List Line
master_of b i = source_line (seen_source (instance_at b i)) ∷ []

-- the instances that are attached to it
abbrev pub replica_lines : BookState → ServerNo → List Line
replica_lines b i = map line.Server (replicas_of b i)

-- ---- clusters

-- an instance whose cluster has this label
abbrev pub is_of_cluster : BookState → List ℕ → ServerNo → Bool
is_of_cluster b label server = is_instance b server && pointwise nat_eq (label_at b server) label

abbrev pub cluster_of : BookState → ServerNo → List Line
cluster_of b i = line.Cluster (label_at b i) ∷ []

abbrev pub cluster_instances : BookState → ServerNo → List Line
cluster_instances b i = listed b (is_of_cluster b (label_at b i))

-- ---- the switch

abbrev pub switch_line : Bool → Line
switch_line enabled = if enabled then line.Enabled else line.Disabled

-- whether recoveries are enabled, as they are without a row
abbrev pub switch_of : BookState → List Line
switch_of b = switch_line (unwrap_or b.switch true) ∷ []
