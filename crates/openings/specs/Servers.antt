-- What each server has executed at an opening, and its position.
use Rattle.std.specs.Prelude.{ℕ, if◌then◌else◌, List, [], take, Option, Some, None, unwrap_or, slice_get, length, zero, suc}
use Rattle.openings.specs.Prelude.{Coord, Log, ServerNo, Txn, coord_after, file_start, opened}
use Rattle.openings.specs.declared.init.ServerInit.{ServerInit}
use Rattle.openings.specs.declared.part.Part.{Part}
use Rattle.openings.specs.Listed.{transactions, listed_history}
use Rattle.openings.specs.Logs.{laid}

-- the server's source
abbrev pub number_of : Option ServerNo → Option ℕ
number_of None = None
number_of (Some m) = Some m.0

abbrev pub source_of : Option ServerInit → Option ℕ
source_of None = None
source_of (Some i) = number_of i.source

abbrev pub sources : List ServerInit → ℕ → Option ℕ
sources servers n = source_of (slice_get servers n)

-- the server that is reached from one by following at most so many sources
abbrev pub follow_on : (ℕ → ℕ) → ℕ → Option ℕ → ℕ
follow_on go n None = n
follow_on go n (Some m) = go m

abbrev pub reached_from : (ℕ → Option ℕ) → ℕ → ℕ → ℕ
reached_from up zero n = n
reached_from up (suc steps) n = follow_on (λ m. reached_from up steps m) n (up n)

-- the server without a source at the top of the sources above one
abbrev pub root_of : List ServerInit → ℕ → ℕ
root_of servers n = reached_from (sources servers) (length servers) n

-- the parts that are listed of a server
abbrev pub parts_of : ServerInit → List Part
parts_of i = unwrap_or i.history []

abbrev pub parts_at : Option ServerInit → List Part
parts_at None = []
parts_at (Some i) = parts_of i

-- how many transactions a server has executed: those of its own history, or so many of its source's
abbrev pub count_under : ServerInit → Option ServerNo → ℕ
count_under i None = transactions (parts_of i)
count_under i (Some m) = i.executed

abbrev pub count_of : ServerInit → ℕ
count_of i = count_under i i.source

abbrev pub count_at : Option ServerInit → ℕ
count_at None = 0
count_at (Some i) = count_of i

-- What a server has executed: the first transactions of the history at the top of its sources, as many as it counts. In
-- a `Sound` opening no server counts more than its source, so these are the first of its source's.
abbrev pub history_at : List ServerInit → ℕ → List Txn
history_at servers n = take (count_at (slice_get servers n)) (listed_history (parts_at (slice_get servers (root_of servers n))))

-- its log
abbrev pub log_by : ServerInit → List Txn → Log
log_by i history = if i.settings.logs then laid i.settings.limit i.flushes history else opened i.settings.limit

-- the transactions that are in it
abbrev pub logged_by : ServerInit → List Txn → List Txn
logged_by i history = if i.settings.logs then history else []

abbrev pub log_in : List ServerInit → ℕ → Option ServerInit → Log
log_in servers n None = opened 100
log_in servers n (Some i) = log_by i (history_at servers n)

abbrev pub log_at : List ServerInit → ℕ → Log
log_at servers n = log_in servers n (slice_get servers n)

-- a server's position in its source's log: its executed coordinate
abbrev pub exec_under : List ServerInit → ServerInit → Option ServerNo → Coord
exec_under servers i None = file_start 1
exec_under servers i (Some m) = unwrap_or i.at (coord_after (log_at servers m.0) i.executed)

abbrev pub exec_of : List ServerInit → ServerInit → Coord
exec_of servers i = exec_under servers i i.source

-- and its read coordinate
abbrev pub read_of : List ServerInit → ServerInit → Coord
read_of servers i = unwrap_or i.read (exec_of servers i)

-- the coordinates to which a replica of a server with this log has executed and read
abbrev pub exec_in : Log → ServerInit → Coord
exec_in log i = unwrap_or i.at (coord_after log i.executed)

abbrev pub read_in : Log → ServerInit → Coord
read_in log i = unwrap_or i.read (exec_in log i)
