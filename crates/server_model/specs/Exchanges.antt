-- The exchanges with a server: each is a function from a world to an answer and a world
-- (MySQL 8.0 Reference Manual, "Replication Implementation").
use Rattle.std.specs.Prelude.{◌<◌, ◌≤◌, ℕ, ◌+◌, Bool, true, false, ◌&&◌, not, if◌then◌else◌, [], ◌∷◌, ◌++◌, length, Option, Some, None, slice_get, nat_le, nat_lt}
use Rattle.server_model.specs.Prelude.{ApplyAnswer, Attached, Coord, Detached, FetchAnswer, Next, SourceState, Txn, Without, WriteAnswer, count_own}
use Rattle.server_model.specs.Prelude.{is_at_or_before, next_after, push, same_coord}
use Rattle.server_model.specs.Prelude.Histories.{holds}
use Rattle.server_model.specs.Prelude.applied_as
use Rattle.server_model.specs.Prelude.fetching
use Rattle.server_model.specs.Prelude.next
use Rattle.server_model.specs.Prelude.wrote
use Rattle.server_model.specs.declared.decisions.FetchStep.{FetchStep}
use Rattle.server_model.specs.declared.decisions.FetchStep.TheVariants as receiving
use Rattle.server_model.specs.declared.decisions.ApplyStep.{ApplyStep}
use Rattle.server_model.specs.declared.decisions.ApplyStep.TheVariants as applying
use Rattle.server_model.specs.declared.server.Server.{Server}
use Rattle.server_model.specs.Worlds.{World, server_at, with_server, has_source}

-- a server that has executed one more transaction
abbrev pub took : Server → Txn → Server
took s t = record s {
  history = record s.history { txns = s.history.txns ++ t ∷ [] };
  log = if s.settings.logs then record s.log { log = push s.log.log t.size; txns = s.log.txns ++ t ∷ [] } else s.log;
}

-- write: an ordinary client's transaction

abbrev pub write_answer : ℕ → Option Server → WriteAnswer
write_answer n None = wrote.Down
write_answer n (Some s) =
    if not s.up then wrote.Down
    else if s.read_only then wrote.ReadOnly
    else if nat_le s.history.room (length s.history.txns) then wrote.Full
    else wrote.Done (count_own n s.history.txns + 1)

-- the server's own transaction of this number
abbrev pub own_txn : ℕ → ℕ → ℕ → Txn
own_txn n seq size = record { origin = record { 0 = n }; seq = seq; size = size }

abbrev pub after_write : World → ℕ → ℕ → Option Server → WriteAnswer → World
after_write w n size None answer = w
after_write w n size (Some s) wrote.Down = w
after_write w n size (Some s) wrote.ReadOnly = w
after_write w n size (Some s) wrote.Full = w
after_write w n size (Some s) (wrote.Done seq) =
    record (with_server w n (took s (own_txn n seq size))) { errant = if has_source s.source then w.errant + 1 else w.errant }

abbrev pub write : World → ℕ → ℕ → WriteAnswer × World
write w n size = let answer = write_answer n (server_at w n) in (answer, after_write w n size (server_at w n) answer)

-- fetch: the receiver reads one step of the source's log

abbrev pub is_attached : SourceState → Bool
is_attached Without = false
is_attached (Attached m) = true
is_attached (Detached m) = false

-- the server that a replica is attached to
abbrev pub attached_at : World → SourceState → Option Server
attached_at w Without = None
attached_at w (Attached m) = server_at w m.0
attached_at w (Detached m) = None

-- what follows in the source's log, if the file that is to be read is kept
abbrev pub fetch_kept : Server → Server → FetchStep
fetch_kept r s = if nat_lt r.read.file s.first then receiving.Refuse s.first else receiving.Take (next_after s.log.log r.read)

abbrev pub fetch_from : Server → Option Server → FetchStep
fetch_from r None = receiving.Unlinked
fetch_from r (Some s) = if s.up && r.feed then fetch_kept r s else receiving.Unlinked

-- the receiver of a replica is on
abbrev pub is_receiving : Server → Bool
is_receiving r = r.up && (is_attached r.source && r.receiver)

abbrev pub fetch_step : World → Option Server → FetchStep
fetch_step w None = receiving.Halt
fetch_step w (Some r) = if is_receiving r then fetch_from r (attached_at w r.source) else receiving.Halt

-- what is answered of a step
abbrev pub fetch_answer : FetchStep → FetchAnswer
fetch_answer receiving.Halt = fetching.Stopped
fetch_answer receiving.Unlinked = fetching.NoLink
fetch_answer (receiving.Refuse first) = fetching.Purged first
fetch_answer (receiving.Take (next.Entry index to)) = fetching.Got to
fetch_answer (receiving.Take (next.Rotate to)) = fetching.Rotated to
fetch_answer (receiving.Take next.End) = fetching.Nothing

-- a receiver that is to read a purged file goes off
abbrev pub after_fetch : World → ℕ → Option Server → FetchStep → World
after_fetch w n None step = w
after_fetch w n (Some r) receiving.Halt = w
after_fetch w n (Some r) receiving.Unlinked = w
after_fetch w n (Some r) (receiving.Refuse first) = with_server w n (record r { receiver = false })
after_fetch w n (Some r) (receiving.Take (next.Entry index to)) = with_server w n (record r { read = to })
after_fetch w n (Some r) (receiving.Take (next.Rotate to)) = with_server w n (record r { read = to })
after_fetch w n (Some r) (receiving.Take next.End) = w

abbrev pub fetch : World → ℕ → FetchAnswer × World
fetch w n = let step = fetch_step w (server_at w n) in (fetch_answer step, after_fetch w n (server_at w n) step)

-- apply: the applier executes one step of the relay log, which is the part of the source's log from exec to read

abbrev pub is_reached : Option Coord → Coord → Bool
is_reached None exec = false
is_reached (Some until) exec = is_at_or_before until exec

-- the transaction that is to be executed
abbrev pub apply_txn : Bool → Server → Coord → Option Txn → ApplyStep
apply_txn gtid r to None = applying.Idle
apply_txn gtid r to (Some t) =
    if gtid && holds t r.history.txns then applying.Skip to
    else if nat_le r.history.room (length r.history.txns) then applying.NoRoom
    else applying.Execute t to

abbrev pub applied : Bool → Server → Server → Next → ApplyStep
applied gtid r s (next.Entry index to) = apply_txn gtid r to (slice_get s.history.txns index)
applied gtid r s (next.Rotate to) = applying.Pass to
applied gtid r s next.End = applying.Idle

abbrev pub apply_from : Bool → Server → Option Server → ApplyStep
apply_from gtid r None = applying.Idle
apply_from gtid r (Some s) = if same_coord r.exec r.read then applying.Idle else applied gtid r s (next_after s.log.log r.exec)

-- the applier of a replica is on
abbrev pub is_applying : Server → Bool
is_applying r = r.up && (is_attached r.source && r.applier)

abbrev pub apply_step : World → Option Server → ApplyStep
apply_step w None = applying.Halt
apply_step w (Some r) =
    if not (is_applying r) then applying.Halt
    else if is_reached r.until r.exec then applying.ForgetUntil
    else apply_from w.gtid r (attached_at w r.source)

abbrev pub after_apply : World → ℕ → Option Server → ApplyStep → World
after_apply w n None step = w
after_apply w n (Some r) applying.Halt = w
after_apply w n (Some r) applying.Idle = w
after_apply w n (Some r) applying.NoRoom = w
after_apply w n (Some r) applying.ForgetUntil = with_server w n (record r { applier = false; until = None })
after_apply w n (Some r) (applying.Pass to) = with_server w n (record r { exec = to })
after_apply w n (Some r) (applying.Skip to) = with_server w n (record r { exec = to })
after_apply w n (Some r) (applying.Execute t to) = with_server w n (record (took r t) { exec = to })

-- what is answered of a step
abbrev pub apply_answer : ApplyStep → ApplyAnswer
apply_answer applying.Halt = applied_as.Stopped
apply_answer applying.ForgetUntil = applied_as.AtUntil
apply_answer applying.Idle = applied_as.Nothing
apply_answer (applying.Pass to) = applied_as.Rotated to
apply_answer (applying.Skip to) = applied_as.Skipped to
apply_answer applying.NoRoom = applied_as.Full
apply_answer (applying.Execute t to) = applied_as.Done to

abbrev pub apply : World → ℕ → ApplyAnswer × World
apply w n = let step = apply_step w (server_at w n) in (apply_answer step, after_apply w n (server_at w n) step)

-- a transaction that is to be executed has room and a size
abbrev pub IsReady : Option Server → ApplyStep → Type 0
IsReady None step = Unit {0}
IsReady (Some r) applying.Halt = Unit {0}
IsReady (Some r) applying.ForgetUntil = Unit {0}
IsReady (Some r) applying.Idle = Unit {0}
IsReady (Some r) (applying.Pass to) = Unit {0}
IsReady (Some r) (applying.Skip to) = Unit {0}
IsReady (Some r) applying.NoRoom = Unit {0}
IsReady (Some r) (applying.Execute t to) = (length r.history.txns < r.history.room) × (0 < t.size) × (t.size ≤ 1000000)
