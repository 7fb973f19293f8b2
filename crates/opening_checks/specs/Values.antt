-- Which value of a server is to blame for a flaw.
use Rattle.std.specs.Prelude.{ℕ, ◌+◌, not, Bool, nat_lt, if◌then◌else◌, List, [], ◌∷◌, Option, Some, None, slice_get}
use Rattle.opening_checks.specs.Prelude.{Coord, Flaw, Log, Part, ServerInit, at_server, bad_coords_in, bad_flushes, bad_purged, count_of, exec_in}
use Rattle.opening_checks.specs.Prelude.{exec_of, has_place_of, log_at, of_source, parts_of, place, read_in, same_cluster}
use Rattle.opening_checks.specs.Prelude.flaw
use Rattle.opening_checks.specs.declared.fault.FlawedValue.{FlawedValue}
use Rattle.opening_checks.specs.declared.fault.FlawedValue.TheVariants as value

abbrev pub elsewhere : List ServerInit → ServerInit → Part → Bool
elsewhere servers i p = at_server (λ s. not (same_cluster i s)) (slice_get servers p.origin.0)

-- the first part whose origin is of another cluster, counted from k
abbrev pub first_elsewhere : List ServerInit → ServerInit → ℕ → List Part → ℕ
first_elsewhere servers i k [] = k
first_elsewhere servers i k (p ∷ ps) = if elsewhere servers i p then k else first_elsewhere servers i (k + 1) ps

abbrev pub source_elsewhere : List ServerInit → ServerInit → Bool
source_elsewhere servers i = of_source servers (λ m s. not (same_cluster i s)) i

-- the source, if that is of another cluster, and else the first such origin
abbrev pub cluster_value : List ServerInit → ServerInit → FlawedValue
cluster_value servers i = if source_elsewhere servers i then value.Source else value.Origin (first_elsewhere servers i 0 (parts_of i))

-- the first count that falls or passes a bound, counted from k
abbrev pub first_bad_flush : ℕ → ℕ → ℕ → List ℕ → ℕ
first_bad_flush bound least k [] = k
first_bad_flush bound least k (f ∷ fs) = if nat_lt f least then k else (if nat_lt bound f then k else first_bad_flush bound f (k + 1) fs)

-- all flush points of a server without a log, and else the first bad one
abbrev pub flush_value : ServerInit → FlawedValue
flush_value i = if i.settings.logs then value.Flush (first_bad_flush (count_of i) 0 0 i.flushes) else value.Flushes

-- the executed coordinate hasn't the place of what was executed
abbrev pub bad_exec_in : Log → ℕ → Coord → Bool
bad_exec_in log executed exec = not (has_place_of (place log exec) executed)

abbrev pub bad_exec : List ServerInit → ServerInit → Bool
bad_exec servers i = of_source servers (λ m s. bad_exec_in (log_at servers m) i.executed (exec_of servers i)) i

abbrev pub bad_coords_under : Log → ServerInit → Bool
bad_coords_under log i = bad_coords_in log i.executed (exec_in log i) (read_in log i)

abbrev pub coord_value_in : Log → ℕ → Coord → FlawedValue
coord_value_in log executed exec = if bad_exec_in log executed exec then value.At else value.Read

abbrev pub coord_value_under : Log → ServerInit → FlawedValue
coord_value_under log i = coord_value_in log i.executed (exec_in log i)

-- the executed coordinate, if that is out of place in the source's log, and else the read one
abbrev pub coord_value : List ServerInit → ServerInit → FlawedValue
coord_value servers i = if bad_exec servers i then value.At else value.Read

-- the bad flush points, else the first kept file, if that is none of the log's, and else a coordinate
abbrev pub place_value : List ServerInit → ℕ → ServerInit → FlawedValue
place_value servers n i = if bad_flushes i then flush_value i else (if bad_purged servers n i then value.Purged else coord_value servers i)

-- the value of server n that is to blame for its flaw
abbrev pub value_of : List ServerInit → ℕ → ServerInit → Flaw → FlawedValue
value_of servers n i flaw.BothGiven = value.Source
value_of servers n i flaw.SourceNotLogging = value.Source
value_of servers n i flaw.Loop = value.Source
value_of servers n i flaw.OtherCluster = cluster_value servers i
value_of servers n i flaw.TooMany = value.Executed
value_of servers n i flaw.BadPlace = place_value servers n i
value_of servers n i flaw.NotKin = value.History

-- that of the server at a number
abbrev pub value_in : List ServerInit → Flaw → ℕ → Option ServerInit → FlawedValue
value_in servers f n None = value.Source
value_in servers f n (Some i) = value_of servers n i f

abbrev pub value_at : List ServerInit → Flaw → ℕ → FlawedValue
value_at servers f n = value_in servers f n (slice_get servers n)
