-- How the servers of an opening are made: each with its log first, and then all with their coordinates.
use Rattle.std.specs.Prelude.{◌≡◌, ℕ, ◌<◌, ◌≤◌, List, length, Some, slice_get}
use Rattle.server_words.specs.BinlogCoords.Log.{Log, file_start, place}
use Rattle.openings.specs.declared.init.ServerInit.{ServerInit}
use Rattle.openings.specs.Opening.{Opened}
use Rattle.openings.specs.Servers.{exec_in, exec_of, log_at, read_in, read_of}
use Rattle.server_model.specs.declared.server.Server.{Server}
use Rattle.world_openings.specs.Opening.{opened_server}

-- both coordinates have their places
pub record IsPlacedIn (log : Log) (i : ServerInit) : Type 0 where
  pub exec : place log (exec_in log i) ≡ Some i.executed
  pub last : ℕ
  pub read : place log (read_in log i) ≡ Some last
  pub order : i.executed ≤ last

-- a server before its coordinates are set
abbrev pub bare_server : List ServerInit → ℕ → ℕ → ℕ → ServerInit → Server
bare_server servers room flushes n i = record (opened_server servers room flushes n i) { exec = file_start 1; read = file_start 1 }

-- so many first servers are there, without their coordinates
pub record AreBare (o : Opened) (room flushes n : ℕ) (servers : List Server) : Type 0 where
  pub count : length servers ≡ n
  pub each : (k : ℕ) (i : ServerInit) → slice_get o.servers k ≡ Some i → k < n → slice_get servers k ≡ Some (bare_server o.servers room flushes k i)

-- each server has its settings and its log
pub record HaveLogs (inits : List ServerInit) (servers : List Server) : Type 0 where
  pub count : length servers ≡ length inits
  pub settings : (k : ℕ) (i : ServerInit) (s : Server) → slice_get inits k ≡ Some i → slice_get servers k ≡ Some s → s.settings ≡ i.settings
  pub each : (k : ℕ) (i : ServerInit) (s : Server) → slice_get inits k ≡ Some i → slice_get servers k ≡ Some s → s.log.log ≡ log_at inits k

-- a server with the coordinates that are listed of it
abbrev pub placed_by : List ServerInit → ServerInit → Server → Server
placed_by inits i s = record s { exec = exec_of inits i; read = read_of inits i }

-- so many first servers have their coordinates, and the others are as they were
pub record ArePlaced (inits : List ServerInit) (n : ℕ) (before servers : List Server) : Type 0 where
  pub count : length servers ≡ length before
  pub done : (k : ℕ) (i : ServerInit) (s : Server) → slice_get inits k ≡ Some i → slice_get before k ≡ Some s → k < n → slice_get servers k ≡ Some (placed_by inits i s)
  pub rest : (k : ℕ) (s : Server) → slice_get before k ≡ Some s → n ≤ k → slice_get servers k ≡ Some s
