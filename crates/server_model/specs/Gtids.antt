-- What servers answer by GTIDs (MySQL 8.0 Reference Manual, "GTID Format and Storage", "GTID Auto-Positioning"). These
-- are the set of what a server has executed, what orchestrator sees of a server in one exchange, and a change of source
-- by a set.
use Rattle.std.specs.Prelude.{◌≡◌, ℕ, ◌<◌, ◌≤◌, Bool, true, false, ◌&&◌, ◌||◌, not, if◌then◌else◌, List, [], ◌∷◌, length, Option, Some, None, Result, Ok, Err, nat_lt, option_and_then, option_map, slice_get, take, unwrap_or}
use Rattle.server_model.specs.Prelude.{All, AttachFault, Coord, Interval, IoState, Reserved, ServerNo, Status, StatusFault, Txn, coord_after, end_of}
use Rattle.server_model.specs.Prelude.{file_start, filter, fold, holds, place, prefix_len, with_pair}
use Rattle.server_model.specs.Prelude.Histories.{holds as txns_hold}
use Rattle.server_model.specs.Prelude.attaching
use Rattle.server_model.specs.Prelude.io
use Rattle.server_model.specs.Prelude.seeing
use Rattle.server_model.specs.declared.server.Server.{Server}
use Rattle.server_model.specs.Attach.{attached_to, chain_meets, purged_answer, spot_below}
use Rattle.server_model.specs.Worlds.{World, server_at, sources, source_no, with_server}

-- the UUID of each server, which is the first half of its own transactions' GTIDs
abbrev pub uuid_of : Option Server → ℕ
uuid_of None = 0
uuid_of (Some s) = s.settings.uuid

abbrev pub uuids_in : List Server → ℕ → ℕ
uuids_in servers n = uuid_of (slice_get servers n)

abbrev pub uuids : World → ℕ → ℕ
uuids w n = uuids_in w.servers n

-- whether a set has the GTID of a transaction
abbrev pub has_gtid : (ℕ → ℕ) → List Interval → Txn → Bool
has_gtid uuid set t = holds set (uuid t.origin.0) t.seq

-- a set with the GTID of one more transaction
abbrev pub with_gtid : (ℕ → ℕ) → List Interval → Txn → List Interval
with_gtid uuid set t = with_pair (uuid t.origin.0) t.seq set

-- a set with the GTIDs of these transactions
abbrev pub with_gtids : (ℕ → ℕ) → List Interval → List Txn → List Interval
with_gtids uuid set txns = fold (with_gtid uuid) set txns

-- the set of a history's GTIDs
abbrev pub set_of : (ℕ → ℕ) → List Txn → List Interval
set_of uuid txns = with_gtids uuid [] txns

-- the set of what a server has executed
abbrev pub executed_set : World → Server → List Interval
executed_set w s = set_of (uuids w) s.history.txns

-- how many transactions are in the purged files of a server's log
abbrev pub purged_len : Server → ℕ
purged_len s = unwrap_or (place s.log.log (file_start s.first)) 0

-- these
abbrev pub purged_txns : Server → List Txn
purged_txns s = take (purged_len s) s.history.txns

-- the set of these
abbrev pub purged_of : (ℕ → ℕ) → Server → List Interval
purged_of uuid s = set_of uuid (purged_txns s)

-- status

abbrev pub is_up : Option Server → Bool
is_up None = false
is_up (Some s) = s.up

-- the receiver of a replica: on and connected to its source, which is attached or detached, or on, or off
abbrev pub io_of : Server → Option Server → IoState
io_of r source = if not r.receiver then io.No else if is_up source && r.feed then io.Yes else io.Connecting

-- the end of the log of a server that logs
abbrev pub own_end_of : Server → Option Coord
own_end_of s = if s.settings.logs then Some (end_of s.log.log) else None

-- what is seen of a server, under its source and with these sets of what it has executed and purged
abbrev pub status_of : Server → Option Server → List Interval → List Interval → Status
status_of s source set purged = record {
  own_end = own_end_of s;
  source = s.source;
  exec = s.exec;
  read = s.read;
  auto = s.auto;
  io = io_of s source;
  sql = s.applier;
  read_only = s.read_only;
  set = set;
  first = s.first;
  purged = purged;
}

-- the source of a server, attached or detached
abbrev pub source_at : World → Server → Option Server
source_at w s = option_and_then (λ m. server_at w m) (source_no s.source)

abbrev pub seen_set : World → Server → List Interval
seen_set w s = if w.gtid then executed_set w s else []

abbrev pub seen_purged : World → Server → List Interval
seen_purged w s = if w.gtid then purged_of (uuids w) s else []

-- what a status would show of a server, reached or not
abbrev pub shown_of : World → Server → Status
shown_of w s = status_of s (source_at w s) (seen_set w s) (seen_purged w s)

abbrev pub shown : World → ℕ → Option Status
shown w n = option_map (shown_of w) (server_at w n)

abbrev pub status_in : World → Option Server → Result Status StatusFault
status_in w None = Err seeing.Unreachable
status_in w (Some s) = if s.up && s.desk then Ok (shown_of w s) else Err seeing.Unreachable

-- what orchestrator sees of a server in one exchange
abbrev pub status : World → ℕ → Result Status StatusFault
status w n = status_in w (server_at w n)

-- the fault that a status answers, and nothing if memory runs out
abbrev pub status_fault : StatusFault → Option StatusFault
status_fault seeing.Unreachable = Some seeing.Unreachable
status_fault seeing.Memory = None

-- a change of source by a set

-- the set of those transactions of a history whose GTIDs the observed set hasn't: the history's set minus that one
abbrev pub errant_set : (ℕ → ℕ) → List Interval → List Txn → List Interval
errant_set uuid observed txns = set_of uuid (filter (λ t. not (has_gtid uuid observed t)) txns)

-- the answer if all except the sets is well: errant transactions, else what follows
abbrev pub errant_answer : List Interval → Result (Unit {0}) AttachFault → Result (Unit {0}) AttachFault
errant_answer [] later = later
errant_answer (s ∷ xs) later = Err (attaching.Errant (s ∷ xs))

-- what is answered before the sets are asked
abbrev pub auto_readiness : Server → Bool → Result (Unit {0}) AttachFault
auto_readiness s loops =
    if not (s.up && s.desk) then Err attaching.Unreachable
    else if s.receiver || s.applier then Err (attaching.Running (spot_below s s.source))
    else if loops then Err attaching.Loop
    else Ok tt

-- how many transactions the longest prefix of a source's history has that a set holds
abbrev pub held_len : (ℕ → ℕ) → List Interval → List Txn → ℕ
held_len uuid set txns = prefix_len (λ t. has_gtid uuid set t) txns

-- that a server's set holds
abbrev pub held_of : (ℕ → ℕ) → Server → Server → ℕ
held_of uuid r s = held_len uuid (set_of uuid r.history.txns) s.history.txns

-- the source has purged more than the longest prefix of its log that the server's set holds
abbrev pub auto_purged : (ℕ → ℕ) → Server → Option Server → Result (Unit {0}) AttachFault
auto_purged uuid r None = Ok tt
auto_purged uuid r (Some s) = purged_answer (nat_lt (held_of uuid r s) (purged_len s)) s.first

-- by the sets: the errant transactions, else whether what follows the server's is kept
abbrev pub answer_by_sets : Result (Unit {0}) AttachFault → List Interval → Result (Unit {0}) AttachFault → Result (Unit {0}) AttachFault
answer_by_sets (Err fault) errant later = Err fault
answer_by_sets (Ok t) errant later = errant_answer errant later

abbrev pub auto_decision : Server → Bool → List Interval → Result (Unit {0}) AttachFault → Result (Unit {0}) AttachFault
auto_decision s loops errant later = answer_by_sets (auto_readiness s loops) errant later

abbrev pub attach_auto_answer : World → ℕ → List Interval → ℕ → Option Server → Result (Unit {0}) AttachFault
attach_auto_answer w n observed to None = Err attaching.Unreachable
attach_auto_answer w n observed to (Some s) =
    auto_decision s (chain_meets (sources w) (length w.servers) to n) (errant_set (uuids w) observed s.history.txns) (auto_purged (uuids w) s (server_at w to))

-- a coordinate, or the start of the first kept file if the coordinate is in a purged one
abbrev pub kept_coord : Server → Coord → Coord
kept_coord s c = if nat_lt c.file s.first then file_start s.first else c

-- the coordinate at which a server goes on under a source that logs: the end of the longest prefix of the source's log
-- that is in the server's set. If that end is in a purged file, it is the start of the first kept file.
abbrev pub auto_coord : (ℕ → ℕ) → Server → Option Server → Coord
auto_coord uuid r None = file_start 1
auto_coord uuid r (Some s) = kept_coord s (coord_after s.log.log (held_of uuid r s))

abbrev pub attached_auto : ServerNo → Coord → Server → Server
attached_auto to at s = record (attached_to to at s) { auto = true }

abbrev pub after_attach_auto : World → ℕ → ServerNo → Option Server → Result (Unit {0}) AttachFault → World
after_attach_auto w n to None answer = w
after_attach_auto w n to (Some s) (Err fault) = w
after_attach_auto w n to (Some s) (Ok t) = with_server w n (attached_auto to (auto_coord (uuids w) s (server_at w to.0)) s)

-- an attachment by the set that was observed of the new source
abbrev pub attach_auto : World → ℕ → List Interval → ServerNo → Result (Unit {0}) AttachFault × World
attach_auto w n observed to = let answer = attach_auto_answer w n observed to.0 (server_at w n) in (answer, after_attach_auto w n to (server_at w n) answer)

-- GTIDs are used, and the server is there and logs
pub record IsAutoTarget (w : World) (to : ℕ) : Type 0 where
  pub gtid : w.gtid ≡ true
  pub target : Server
  pub there : server_at w to ≡ Some target
  pub logs : target.settings.logs ≡ true

-- the fault that an attachment answers, and nothing if memory runs out
abbrev pub attach_fault : AttachFault → Option AttachFault
attach_fault attaching.Unreachable = Some attaching.Unreachable
attach_fault (attaching.Running at) = Some (attaching.Running at)
attach_fault (attaching.Interfered expected found) = Some (attaching.Interfered expected found)
attach_fault attaching.Loop = Some attaching.Loop
attach_fault (attaching.Errant set) = Some (attaching.Errant set)
attach_fault (attaching.Purged first) = Some (attaching.Purged first)
attach_fault attaching.Memory = None

-- the set answers for each transaction of the source whether the replica has executed it
pub record TellsExecuted (gtid : Bool) (uuid : ℕ → ℕ) (set : List Interval) (r s : Server) : Type 0 where
  pub told : gtid ≡ true → (k : ℕ) (t : Txn) → slice_get s.history.txns k ≡ Some t → has_gtid uuid set t ≡ txns_hold t r.history.txns

-- what is kept beside a server: the set of transactions that it has executed, if GTIDs are used, with room for its
-- history
pub record IsSetOf (gtid : Bool) (uuid : ℕ → ℕ) (s : Server) (txns : List Txn) (e : Reserved) : Type 0 where
  pub set : e.intervals ≡ (if gtid then set_of uuid txns else [])
  pub room : gtid ≡ true → s.history.room ≤ e.room

-- a transaction with a GTID, of one of so many servers
pub record IsNumbered (servers : ℕ) (t : Txn) : Type 0 where
  pub origin : t.origin.0 < servers
  pub some : 1 ≤ t.seq
  pub few : t.seq ≤ 4000000

-- the servers' UUIDs differ, their transactions have GTIDs, the log of a server that logs has its history, and each
-- server's executed set and purged set are kept
pub record AreGtids (servers : List Server) (executed purged : List Reserved) (gtid : Bool) : Type 0 where
  pub paired : length executed ≡ length servers
  pub purged_paired : length purged ≡ length servers
  pub apart : (m n : ℕ) (s t : Server) → slice_get servers m ≡ Some s → slice_get servers n ≡ Some t → s.settings.uuid ≡ t.settings.uuid → m ≡ n
  pub numbered : (n : ℕ) (s : Server) → slice_get servers n ≡ Some s → All (IsNumbered (length servers)) s.history.txns
  pub logged : (n : ℕ) (s : Server) → slice_get servers n ≡ Some s → s.settings.logs ≡ true → length s.log.log.entries ≡ length s.history.txns
  pub kept : (n : ℕ) (s : Server) (e : Reserved) → slice_get servers n ≡ Some s → slice_get executed n ≡ Some e → IsSetOf gtid (uuids_in servers) s s.history.txns e
  pub purges : (n : ℕ) (s : Server) (e : Reserved) → slice_get servers n ≡ Some s → slice_get purged n ≡ Some e → IsSetOf gtid (uuids_in servers) s (purged_txns s) e

-- the set of a history, if GTIDs are used, in room for so many transactions
abbrev pub reserved_set : Bool → (ℕ → ℕ) → ℕ → List Txn → Reserved
reserved_set gtid uuid room txns = if gtid then record { intervals = set_of uuid txns; room = room } else record { intervals = []; room = 0 }
