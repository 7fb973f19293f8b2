-- What a book has of its servers, instances and their sources.
use Rattle.std.specs.Prelude.{ℕ, Bool, false, ◌==◌, List, [], filter, slice_get, Option, Some, None, is_some}
use Rattle.instance_keeper.specs.OrchBase.declared.server.ServerNo.{ServerNo}
use Rattle.instance_keeper.specs.OrchBase.declared.server.Settings.{Settings}
use Rattle.instance_keeper.specs.OrchBase.declared.server.SourceState.{SourceState}
use Rattle.instance_keeper.specs.OrchBase.declared.server.SourceState.TheVariants.{Without, Attached, Detached}
use Rattle.instance_keeper.specs.Book.{BookState, instance_at}
use Rattle.instance_keeper.specs.KeptRows.declared.observation.Instance.{Instance}
use Rattle.instance_keeper.specs.NameOrder.NameOrder.{by_name}

-- the server is an instance of the book
abbrev pub is_instance : BookState → ServerNo → Bool
is_instance b server = is_some (instance_at b server)

-- the source that was seen: none of a server that is no instance
abbrev pub seen_source : Option Instance → SourceState
seen_source None = Without
seen_source (Some i) = i.seen.source

-- the source, attached or detached
abbrev pub source_in : SourceState → Option ServerNo
source_in Without = None
source_in (Attached source) = Some source
source_in (Detached source) = Some source

abbrev pub is_attached_to : ServerNo → SourceState → Bool
is_attached_to i Without = false
is_attached_to i (Attached source) = source.0 == i.0
is_attached_to i (Detached source) = false

-- the server is an instance that is attached to it
abbrev pub is_replica_of : BookState → ServerNo → ServerNo → Bool
is_replica_of b i server = is_attached_to i (seen_source (instance_at b server))

-- the instances that are attached to it, in name order
abbrev pub replicas_of : BookState → ServerNo → List ServerNo
replicas_of b i = filter (is_replica_of b i) (by_name b.names)

abbrev pub label_of : Option Settings → List ℕ
label_of None = []
label_of (Some s) = s.cluster

-- the label of a server's cluster
abbrev pub label_at : BookState → ServerNo → List ℕ
label_at b server = label_of (slice_get b.settings server.0)
