-- What contracts see of a server, by the one list that it holds.
use Rattle.std.specs.Prelude.{[], if◌then◌else◌}
use Rattle.server_model.specs.Prelude.{Index, opened}
use Rattle.server_model.specs.Server.{Server}
use Rattle.server_model.specs.declared.server.Server.TheInside.{Inside}

-- the log that is printed: if the server doesn't log, one without transactions
abbrev pub told_log : Inside → Index
told_log a = if a.settings.logs then a.log else record a.log { log = opened a.settings.limit; txns = [] }

abbrev pub server_of : Inside → Server
server_of a = record {
  settings = a.settings;
  history = record { txns = a.log.txns; room = a.log.room };
  log = told_log a;
  first = a.first;
  source = a.source;
  exec = a.exec;
  read = a.read;
  auto = a.auto;
  receiver = a.receiver;
  applier = a.applier;
  until = a.until;
  read_only = a.read_only;
  up = a.up;
  desk = a.desk;
  feed = a.feed;
}
