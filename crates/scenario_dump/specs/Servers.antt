-- The servers of a world as a scenario gives them.
use Rattle.std.specs.Prelude.{ℕ, true, false, if◌then◌else◌, List, [], length, map, Option, Some, None}
use Rattle.scenario_dump.specs.Prelude.{Attached, Detached, Opened, Server, ServerInit, ServerNo, SourceState, Without, World, is_detached, opening}
use Rattle.scenario_dump.specs.Files.{flush_points}
use Rattle.scenario_dump.specs.Histories.{parts_of}

abbrev pub source_in : SourceState → Option ServerNo
source_in Without = None
source_in (Attached m) = Some m
source_in (Detached m) = Some m

-- after how many of its transactions its log was flushed; one that doesn't log has no flush points
abbrev pub points_of : Server → List ℕ
points_of s = if s.settings.logs then flush_points s.settings.limit s.log.log else []

-- A server without a source lists its history, and nothing of how it replicates. Another one has its source, how many
-- of the source's transactions it has executed, and its position and how it goes on.
abbrev pub init_by : Server → Option ServerNo → ServerInit
init_by s None = record {
  settings = s.settings;
  read_only = s.read_only;
  up = s.up;
  desk = s.desk;
  feed = s.feed;
  history = Some (parts_of s.history.txns);
  source = None;
  executed = 0;
  at = None;
  read = None;
  io = true;
  sql = true;
  auto = false;
  detached = false;
  until = None;
  flushes = points_of s;
  purged = s.first;
}
init_by s (Some m) = record {
  settings = s.settings;
  read_only = s.read_only;
  up = s.up;
  desk = s.desk;
  feed = s.feed;
  history = None;
  source = Some m;
  executed = length s.history.txns;
  at = Some s.exec;
  read = Some s.read;
  io = s.receiver;
  sql = s.applier;
  auto = s.auto;
  detached = is_detached s.source;
  until = s.until;
  flushes = points_of s;
  purged = s.first;
}

unfoldable pub init_of : Server → ServerInit
init_of s = init_by s (source_in s.source)

-- the servers in order, with or without GTIDs
unfoldable pub opening_of : World → Opened
opening_of w = opening (map init_of w.servers) w.gtid
