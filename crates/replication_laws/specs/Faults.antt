-- Answers that say that nothing was done.
use Rattle.std.specs.Prelude.{Bool, true, false, Result, Ok, Err}
use Rattle.replication_laws.specs.Prelude.{Apply, ApplyAnswer, Attach, AttachAuto, Befall, Exchange, Fetch, FetchAnswer, Purge, PurgeAnswer, Request}
use Rattle.replication_laws.specs.Prelude.{Rotate, RotateAnswer, World, Write, WriteAnswer, apply, ask, attach_at, attach_auto, fetch, purge, rotate}
use Rattle.replication_laws.specs.Prelude.{write}
use Rattle.replication_laws.specs.Prelude.applied_as
use Rattle.replication_laws.specs.Prelude.fetching
use Rattle.replication_laws.specs.Prelude.purging
use Rattle.replication_laws.specs.Prelude.rotating
use Rattle.replication_laws.specs.Prelude.wrote

-- a client's transaction was not written
abbrev pub nothing_written : WriteAnswer → Bool
nothing_written wrote.Down = true
nothing_written wrote.ReadOnly = true
nothing_written wrote.Full = true
nothing_written (wrote.Done seq) = false

-- the receiver read nothing, and goes on as it did
abbrev pub nothing_read : FetchAnswer → Bool
nothing_read fetching.Stopped = true
nothing_read fetching.NoLink = true
nothing_read fetching.Nothing = true
nothing_read (fetching.Purged first) = false
nothing_read (fetching.Got to) = false
nothing_read (fetching.Rotated to) = false

-- the applier neither executed nor passed anything, and goes on as it did
abbrev pub nothing_applied : ApplyAnswer → Bool
nothing_applied applied_as.Stopped = true
nothing_applied applied_as.Nothing = true
nothing_applied applied_as.Full = true
nothing_applied applied_as.AtUntil = false
nothing_applied (applied_as.Rotated to) = false
nothing_applied (applied_as.Skipped to) = false
nothing_applied (applied_as.Done to) = false

-- no file was begun
abbrev pub no_new_file : RotateAnswer → Bool
no_new_file rotating.Down = true
no_new_file rotating.NotLogging = true
no_new_file rotating.Full = true
no_new_file (rotating.Done at) = false

-- nothing was purged
abbrev pub nothing_purged : PurgeAnswer → Bool
nothing_purged purging.Down = true
nothing_purged purging.NotLogging = true
nothing_purged purging.NoFile = true
nothing_purged (purging.Done first) = false

-- a fault
abbrev pub is_fault : {E : Type 0} → Result (Unit {0}) E → Bool
is_fault (Ok t) = false
is_fault (Err e) = true

-- the exchange answers a fault, or Down, ReadOnly, Full, Stopped, NoLink, Nothing, NotLogging or NoFile; what happens
-- to a server has no answer
abbrev pub nothing_done : World → Exchange → Bool
nothing_done w (Write n size) = nothing_written (write w n size).0
nothing_done w (Fetch n) = nothing_read (fetch w n).0
nothing_done w (Apply n) = nothing_applied (apply w n).0
nothing_done w (Request n a) = is_fault (ask w n a).0
nothing_done w (Befall n e) = false
nothing_done w (Rotate n) = no_new_file (rotate w n).0
nothing_done w (Purge n file) = nothing_purged (purge w n file).0
nothing_done w (Attach n expect to at) = is_fault (attach_at w n expect to at).0
nothing_done w (AttachAuto n observed to) = is_fault (attach_auto w n observed to).0
