-- The world that an opening opens.
use Rattle.std.specs.Prelude.{ℕ, ◌+◌, ◌-◌, ◌≤◌, ◌&&◌, Bool, if◌then◌else◌, List, [], ◌∷◌, All, length, Option, Some, None, is_some}
use Rattle.server_words.specs.OrchBase.declared.server.ServerNo.{ServerNo}
use Rattle.server_words.specs.OrchBase.declared.server.SourceState.{SourceState}
use Rattle.server_words.specs.OrchBase.declared.server.SourceState.TheVariants.{Without, Attached, Detached}
use Rattle.openings.specs.declared.init.ServerInit.{ServerInit}
use Rattle.openings.specs.Listed.{transactions}
use Rattle.openings.specs.Opening.{Opened}
use Rattle.openings.specs.Servers.{parts_of, history_at, log_by, logged_by, exec_of, read_of}
use Rattle.server_model.specs.declared.server.Server.{Server}
use Rattle.server_model.specs.Worlds.{World}

abbrev pub source_state : Bool → Option ServerNo → SourceState
source_state detached None = Without
source_state detached (Some m) = if detached then Detached m else Attached m

-- server n at the opening; the threads of a server without a source are off
abbrev pub opened_server : List ServerInit → ℕ → ℕ → ℕ → ServerInit → Server
opened_server servers room flushes n i = record {
  settings = i.settings;
  history = record { txns = history_at servers n; room = room };
  log = record {
    log = log_by i (history_at servers n);
    txns = logged_by i (history_at servers n);
    room = room;
    flushes = flushes - length i.flushes;
  };
  first = i.purged;
  source = source_state i.detached i.source;
  exec = exec_of servers i;
  read = read_of servers i;
  auto = i.auto;
  receiver = is_some i.source && i.io;
  applier = is_some i.source && i.sql;
  until = i.until;
  read_only = i.read_only;
  up = i.up;
  desk = i.desk;
  feed = i.feed;
}

-- the servers from number n on
abbrev pub opened_from : List ServerInit → ℕ → ℕ → ℕ → List ServerInit → List Server
opened_from servers room flushes n [] = []
opened_from servers room flushes n (i ∷ is) = opened_server servers room flushes n i ∷ opened_from servers room flushes (n + 1) is

-- the world that an opening opens, with room for so many transactions and new files at each server
abbrev pub opened_world : Opened → ℕ → ℕ → World
opened_world o room flushes = record { servers = opened_from o.servers room flushes 0 o.servers; gtid = o.gtid; errant = 0 }

-- each server has room for what is listed of it, and for its flushes
pub record Fits (o : Opened) (room flushes : ℕ) : Type 0 where
  pub histories : All (λ i. transactions (parts_of i) ≤ room) o.servers
  pub flush_points : All (λ i. length i.flushes ≤ flushes) o.servers
