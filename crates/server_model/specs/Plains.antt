-- What the tables print of a server.
use Rattle.std.specs.Prelude.{ℕ, Option, Some, None, Result, Ok, Err, ◌&&◌, not, nat_lt, slice_get, if◌then◌else◌}
use Rattle.server_model.specs.Prelude.{Index, Plain, Txn, Unreachable}
use Rattle.server_model.specs.Gtids.{purged_len}
use Rattle.server_model.specs.Worlds.{World, server_at}
use Rattle.server_model.specs.declared.server.Server.{Server}

abbrev pub plain_of : Server → Plain
plain_of s = record {
  up = s.up;
  desk = s.desk;
  feed = s.feed;
  read_only = s.read_only;
  source = s.source;
  exec = s.exec;
  read = s.read;
  auto = s.auto;
  receiver = s.receiver;
  applier = s.applier;
  until = s.until;
  first = s.first;
}

-- the transaction of this index, from 0, in the kept files of a server's log
abbrev pub logged_by : Server → ℕ → Option Txn
logged_by s k =
    if not s.settings.logs then None
    else if nat_lt k (purged_len s) then None
    else slice_get s.history.txns k

abbrev pub logged_in : Option Server → ℕ → Result (Option Txn) Unreachable
logged_in None k = Err (record {})
logged_in (Some s) k = if s.up && s.desk then Ok (logged_by s k) else Err (record {})

-- what orchestrator reads of a server's log
abbrev pub logged : World → ℕ → ℕ → Result (Option Txn) Unreachable
logged w n k = logged_in (server_at w n) k

-- the log of a server that logs
abbrev pub log_of : Server → Option Index
log_of s = if s.settings.logs then Some s.log else None
