-- Changes of one server: what orchestrator asks of it, what happens to it, and a new file of its log. See MySQL 8.0
-- Reference Manual, "SQL Statements for Controlling Replica Servers", "FLUSH BINARY LOGS".
use Rattle.std.specs.Prelude.{ℕ, ◌-◌, ◌==◌, Bool, true, false, ◌&&◌, ◌||◌, not, if◌then◌else◌, Option, Some, None, Result, Ok, Err}
use Rattle.server_model.specs.Prelude.{Ask, Attached, Coord, Detached, Event, Link, RotateAnswer, SourceState, Threads, Unreachable, Without, end_of}
use Rattle.server_model.specs.Prelude.{file_start, flush}
use Rattle.server_model.specs.Prelude.asking
use Rattle.server_model.specs.Prelude.event
use Rattle.server_model.specs.Prelude.link
use Rattle.server_model.specs.Prelude.rotating
use Rattle.server_model.specs.Prelude.threads
use Rattle.server_model.specs.declared.server.Server.{Server}
use Rattle.server_model.specs.Exchanges.{is_attached}
use Rattle.server_model.specs.Worlds.{World, server_at, with_server}

-- STOP REPLICA: the named threads are off, and a stopped applier forgets how far it was to go
abbrev pub stopped : Threads → Server → Server
stopped threads.Both s = record s { receiver = false; applier = false; until = None }
stopped threads.Receiver s = record s { receiver = false }
stopped threads.Applier s = record s { applier = false; until = None }

-- START REPLICA, with or without UNTIL a coordinate: both threads of an attached server are on
abbrev pub started : Option Coord → Server → Server
started until s = if is_attached s.source then record s { receiver = true; applier = true; until = until } else s

-- the same source, detached
abbrev pub detached_source : SourceState → SourceState
detached_source Without = Without
detached_source (Attached m) = Detached m
detached_source (Detached m) = Detached m

-- an attached server keeps its source and follows it no longer; its relay log is emptied
abbrev pub detached : Server → Server
detached s = if is_attached s.source then record s { source = detached_source s.source; receiver = false; applier = false; read = s.exec; until = None } else s

abbrev pub attached_source : SourceState → SourceState
attached_source Without = Without
attached_source (Attached m) = Attached m
attached_source (Detached m) = Attached m

abbrev pub is_detached : SourceState → Bool
is_detached Without = false
is_detached (Attached m) = false
is_detached (Detached m) = true

-- a detached server is attached again, with its threads off
abbrev pub reattached : Server → Server
reattached s = if is_detached s.source then record s { source = attached_source s.source; receiver = false; applier = false } else s

-- RESET REPLICA ALL: no source, no relay log, the coordinates at the start
abbrev pub without_source : Server → Server
without_source s = record s { source = Without; receiver = false; applier = false; exec = file_start 1; read = file_start 1; auto = false; until = None }

-- what orchestrator asks of a server
abbrev pub asked : Ask → Server → Server
asked (asking.Stop which) s = stopped which s
asked asking.Start s = started None s
asked (asking.StartUntil to) s = started (Some to) s
asked asking.Detach s = detached s
asked asking.Reattach s = reattached s
asked asking.Reset s = without_source s
asked (asking.SetReadOnly on) s = record s { read_only = on }

-- whether orchestrator reaches a server: it is up, and its desk link is joined
abbrev pub can_reach : Option Server → Bool
can_reach None = false
can_reach (Some s) = s.up && s.desk

abbrev pub desk_answer : Option Server → Result (Unit {0}) Unreachable
desk_answer None = Err (record {})
desk_answer (Some s) = if s.up && s.desk then Ok tt else Err (record {})

abbrev pub after_change : World → ℕ → (Server → Server) → Option Server → World
after_change w n f None = w
after_change w n f (Some s) = with_server w n (f s)

abbrev pub after_desk : World → ℕ → Ask → Result (Unit {0}) Unreachable → World
after_desk w n a (Ok t) = after_change w n (asked a) (server_at w n)
after_desk w n a (Err e) = w

abbrev pub ask : World → ℕ → Ask → Result (Unit {0}) Unreachable × World
ask w n a = let answer = desk_answer (server_at w n) in (answer, after_desk w n a answer)

abbrev pub with_link : Link → Bool → Server → Server
with_link link.Desk on s = record s { desk = on }
with_link link.Feed on s = record s { feed = on }

-- a server that starts again starts its threads if it is attached, and forgets how far its applier was to go
abbrev pub healed : Server → Server
healed s = if s.up then s else record s { up = true; until = None; receiver = is_attached s.source || s.receiver; applier = is_attached s.source || s.applier }

-- what happens to a server without an exchange
abbrev pub befallen : Event → Server → Server
befallen event.Fail s = record s { up = false }
befallen event.Heal s = healed s
befallen (event.Cut l) s = with_link l false s
befallen (event.Join l) s = with_link l true s

abbrev pub befall : World → ℕ → Event → World
befall w n e = after_change w n (befallen e) (server_at w n)

-- FLUSH BINARY LOGS

abbrev pub rotate_answer : Option Server → RotateAnswer
rotate_answer None = rotating.Down
rotate_answer (Some s) =
    if not s.up then rotating.Down
    else if not s.settings.logs then rotating.NotLogging
    else if s.log.flushes == 0 then rotating.Full
    else rotating.Done (end_of (flush s.log.log))

-- the next file begins
abbrev pub rotated : Server → Server
rotated s = record s { log = record s.log { log = flush s.log.log; flushes = s.log.flushes - 1 } }

abbrev pub after_rotate : World → ℕ → Option Server → RotateAnswer → World
after_rotate w n None answer = w
after_rotate w n (Some s) rotating.Down = w
after_rotate w n (Some s) rotating.NotLogging = w
after_rotate w n (Some s) rotating.Full = w
after_rotate w n (Some s) (rotating.Done at) = with_server w n (rotated s)

abbrev pub rotate : World → ℕ → RotateAnswer × World
rotate w n = let answer = rotate_answer (server_at w n) in (answer, after_rotate w n (server_at w n) answer)
