-- What a book has of each of its instances.
use Rattle.std.specs.Prelude.{ℕ, ◌&&◌, Bool, true, false, List, count_by, filter_map, Option, Some, None, is_some, option_map}
use Rattle.instance_keeper.specs.BinlogCoords.Log.{is_before}
use Rattle.instance_keeper.specs.OrchBase.declared.server.IoState.{IoState}
use Rattle.instance_keeper.specs.OrchBase.declared.server.IoState.TheVariants as io
use Rattle.instance_keeper.specs.OrchBase.declared.server.ServerNo.{ServerNo}
use Rattle.instance_keeper.specs.NameOrder.NameOrder.{by_name}
use Rattle.instance_keeper.specs.Book.{BookState, instance_at}
use Rattle.instance_keeper.specs.KeptRows.declared.observation.Instance.{Instance}
use Rattle.book_views.specs.Sources.{is_attached_to, source_in}
use Rattle.failure_analysis.specs.declared.code.Counts.{Counts}
use Rattle.failure_analysis.specs.declared.entry.Entry.{Entry}
use Rattle.failure_analysis.specs.Table.{code_of}

-- ---- tests of replicas, each a part of the one before it

abbrev pub is_any : Instance → Bool
is_any i = true

abbrev pub is_valid : Instance → Bool
is_valid i = i.valid

abbrev pub is_connected : IoState → Bool
is_connected io.Yes = true
is_connected io.Connecting = false
is_connected io.No = false

-- the receiver is connected, and the applier on
abbrev pub replicates : Instance → Bool
replicates i = i.valid && (is_connected i.seen.io && i.seen.sql)

-- it hasn't executed what it has read
abbrev pub lags : Instance → Bool
lags i = replicates i && is_before i.seen.exec i.seen.read

-- ---- counts

-- an instance that is attached to the server, and passes
abbrev pub is_replica_that : (Instance → Bool) → ServerNo → Option Instance → Bool
is_replica_that test n None = false
is_replica_that test n (Some i) = is_attached_to n i.seen.source && test i

-- how many replicas of a server pass
abbrev pub count_of : (Instance → Bool) → List (Option Instance) → ServerNo → ℕ
count_of test instances n = count_by (is_replica_that test n) instances

abbrev pub counts_of : BookState → ServerNo → Instance → Counts
counts_of b n i = record {
  has_source = is_some (source_in i.seen.source);
  valid = i.valid;
  replicas = count_of is_any b.instances n;
  valid_replicas = count_of is_valid b.instances n;
  replicating = count_of replicates b.instances n;
  lagging = count_of lags b.instances n;
}

abbrev pub entry_of : BookState → ServerNo → Instance → Entry
entry_of b n i = record { no = n; code = code_of (counts_of b n i); counts = counts_of b n i }

-- the entry of a server, if it is an instance
abbrev pub entry_at : BookState → ServerNo → Option Entry
entry_at b n = option_map (entry_of b n) (instance_at b n)

-- one entry for each instance, in name order
unfoldable pub analysis : BookState → List Entry
analysis b = filter_map (entry_at b) (by_name b.names)
