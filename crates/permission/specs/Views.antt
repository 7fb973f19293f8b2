-- What the book and the settings have of a server. A number that no server has is no instance; its settings are empty.
use Rattle.std.specs.Prelude.{ℕ, Bool, true, false, ◌==◌, ◌&&◌, ◌||◌, nat_eq, nat_lt, List, [], length, Option, Some, None}
use Rattle.permission.specs.Prelude.{Attached, BookState, Coord, Detached, Instance, Interval, Server, ServerNo, SourceState, Version, Without, World}
use Rattle.permission.specs.Prelude.{above, book_forest, instance_at, is_reached, node_at, option_and_then, pointwise, seen_source, server_at}
use Rattle.permission.specs.Prelude.{source_in}

-- ---- by the book

-- the seen source, attached or detached
abbrev pub source_of : BookState → ServerNo → Option ServerNo
source_of b n = source_in (seen_source (instance_at b n))

abbrev pub attached_in : SourceState → Option ServerNo
attached_in Without = None
attached_in (Attached m) = Some m
attached_in (Detached m) = None

-- the seen source, if the server is attached to it
abbrev pub attached_of : BookState → ServerNo → Option ServerNo
attached_of b n = attached_in (seen_source (instance_at b n))

abbrev pub is_attached_in : SourceState → Bool
is_attached_in Without = false
is_attached_in (Attached m) = true
is_attached_in (Detached m) = false

abbrev pub is_detached_in : SourceState → Bool
is_detached_in Without = false
is_detached_in (Attached m) = false
is_detached_in (Detached m) = true

-- the source's own source, attached or detached
abbrev pub source_above : BookState → ServerNo → Option ServerNo
source_above b n = option_and_then (source_of b) (source_of b n)

abbrev pub valid_in : Option Instance → Bool
valid_in None = false
valid_in (Some i) = i.valid

-- the server is an instance whose last reading reached it
abbrev pub is_valid : BookState → ServerNo → Bool
is_valid b n = valid_in (instance_at b n)

abbrev pub auto_in : Option Instance → Bool
auto_in None = false
auto_in (Some i) = i.seen.auto

-- the server was seen to find its place by GTIDs
abbrev pub is_auto : BookState → ServerNo → Bool
is_auto b n = auto_in (instance_at b n)

abbrev pub set_in : Option Instance → List Interval
set_in None = []
set_in (Some i) = i.seen.set

-- the set that was seen of the server
abbrev pub set_seen : BookState → ServerNo → List Interval
set_seen b n = set_in (instance_at b n)

-- the executed coordinate that was seen of the server
abbrev pub exec_in : Option Instance → Coord
exec_in None = record { file = 1; pos = 4 }
exec_in (Some i) = i.seen.exec

abbrev pub exec_seen : BookState → ServerNo → Coord
exec_seen b n = exec_in (instance_at b n)

-- the first file that the server was seen to keep
abbrev pub first_in : Option Instance → ℕ
first_in None = 1
first_in (Some i) = i.seen.first

abbrev pub first_seen : BookState → ServerNo → ℕ
first_seen b n = first_in (instance_at b n)

-- the set of what the server was seen to have purged
abbrev pub purged_in : Option Instance → List Interval
purged_in None = []
purged_in (Some i) = i.seen.purged

abbrev pub purged_seen : BookState → ServerNo → List Interval
purged_seen b n = purged_in (instance_at b n)

-- one server comes to another by following parents in the book's forest, which takes fewer steps than there are nodes
abbrev pub is_below : BookState → ServerNo → ServerNo → Bool
is_below b one other =
    nat_lt one.0 (length b.names) && nat_lt other.0 (length b.names)
    && is_reached (above (book_forest b)) (length (book_forest b)) (node_at b other) (node_at b one)

-- one server is before another by name
abbrev pub is_before : BookState → ServerNo → ServerNo → Bool
is_before b one other =
    nat_lt one.0 (length b.names) && nat_lt other.0 (length b.names) && nat_lt (node_at b one) (node_at b other)

-- ---- by the settings, which never change

abbrev pub label_in : Option Server → List ℕ
label_in None = []
label_in (Some s) = s.settings.cluster

abbrev pub same_label : World → ServerNo → ServerNo → Bool
same_label w one other = pointwise nat_eq (label_in (server_at w one.0)) (label_in (server_at w other.0))

abbrev pub logs_in : Option Server → Bool
logs_in None = false
logs_in (Some s) = s.settings.logs

-- the server writes a binary log
abbrev pub has_log : World → ServerNo → Bool
has_log w n = logs_in (server_at w n.0)

abbrev pub id_in : Option Server → ℕ
id_in None = 0
id_in (Some s) = s.settings.server_id

abbrev pub same_id : World → ServerNo → ServerNo → Bool
same_id w one other = id_in (server_at w one.0) == id_in (server_at w other.0)

abbrev pub version_in : Option Server → Version
version_in None = record { major = 0; minor = 0; patch = 0 }
version_in (Some s) = s.settings.version

-- a version is lower by its first two parts
abbrev pub lower_version : Version → Version → Bool
lower_version a b = nat_lt a.major b.major || ((a.major == b.major) && nat_lt a.minor b.minor)

abbrev pub is_lower : World → ServerNo → ServerNo → Bool
is_lower w one other = lower_version (version_in (server_at w one.0)) (version_in (server_at w other.0))

abbrev pub uuid_in : Option Server → ℕ
uuid_in None = 0
uuid_in (Some s) = s.settings.uuid

abbrev pub uuid_of : World → ServerNo → ℕ
uuid_of w n = uuid_in (server_at w n.0)
