-- What the tables of servers, of the book and of the analysis say, row by row.
use Rattle.std.specs.Prelude.{◌≡◌, ◌⊎◌, ◌&&◌, ℕ, ◌<◌, ◌≤◌, Bool, Ok, true, false, Contains, List, [], ◌∷◌, ◌++◌, count_by, drop, length, None, Some}
use Rattle.run_laws.specs.Prelude.{Attached, BookState, Bridge, Candidate, Coord, Downtime, Instance, Moment, Position, Server, ServerNo, Spot, State}
use Rattle.run_laws.specs.Prelude.{Turn, World, after, asked, attach_at, attach_auto, by_name, candidate_kept, counts_of, downtime_at, downtime_kept}
use Rattle.run_laws.specs.Prelude.{Status, is_attached, is_before, is_replica_that, lags, replicates, round_of, rule_at, seen_in, server_at}
use Rattle.run_laws.specs.Prelude.{source_at, status, with_bridge, write}
use Rattle.run_laws.specs.Prelude.act
use Rattle.run_laws.specs.Prelude.asking
use Rattle.run_laws.specs.Prelude.event
use Rattle.run_laws.specs.Prelude.exchange
use Rattle.run_laws.specs.Prelude.io
use Rattle.run_laws.specs.Prelude.rule
use Rattle.run_laws.specs.Prelude.turn
use Rattle.run_laws.specs.Prelude.threads
use Rattle.run_laws.specs.Prelude.turns_step
use Rattle.run_laws.specs.Prelude.wrote

-- ---- the analysis counts replicas

-- a replica replicates if it was reached, its receiver is connected, and its applier is on
pub record Replicates (i : Instance) : Type 0 where
  pub valid : i.valid ≡ true
  pub receiver : i.seen.io ≡ io.Yes
  pub applier : i.seen.sql ≡ true

-- exactly such ones are counted as replicating, and those of them as lagging that haven't executed all that they read
pub record CountsReplicas (i : Instance) : Type 0 where
  pub replicating : replicates i ≡ true → Replicates i
  pub all : Replicates i → replicates i ≡ true
  pub lagging : lags i ≡ true → Replicates i × (is_before i.seen.exec i.seen.read ≡ true)
  pub behind : Replicates i → is_before i.seen.exec i.seen.read ≡ true → lags i ≡ true

-- the counts of a server are those of the instances that are attached to it
pub record CountsByInstances (b : BookState) (n : ServerNo) (i : Instance) : Type 0 where
  pub valid : (counts_of b n i).valid ≡ i.valid
  pub replicas : (counts_of b n i).replicas ≡ count_by (is_replica_that (λ k. true) n) b.instances
  pub valid_replicas : (counts_of b n i).valid_replicas ≡ count_by (is_replica_that (λ k. k.valid) n) b.instances
  pub replicating : (counts_of b n i).replicating ≡ count_by (is_replica_that replicates n) b.instances
  pub lagging : (counts_of b n i).lagging ≡ count_by (is_replica_that lags n) b.instances

-- ---- a ring keeps the latest 16 bridges

-- one more bridge joins it, unless it is the latest already; only if it has 16 the oldest makes room
pub record KeepsSixteen (ring : List Bridge) (b : Bridge) : Type 0 where
  pub room : length ring < 16 → (with_bridge ring b ≡ ring) ⊎ (with_bridge ring b ≡ ring ++ b ∷ [])
  pub full : length ring ≡ 16 → (with_bridge ring b ≡ ring) ⊎ (with_bridge ring b ≡ drop 1 ring ++ b ∷ [])

-- ---- a downtime and a registration end at their moment

pub record EndsInTime (b : BookState) (n : ServerNo) (now : Moment) : Type 0 where
  pub lasts : (d : Downtime) → downtime_kept b n ≡ Some d → now.0 < d.until.0 → downtime_at b n now ≡ Some d.until
  pub ended : (d : Downtime) → downtime_kept b n ≡ Some d → d.until.0 ≤ now.0 → downtime_at b n now ≡ None
  pub registered : (c : Candidate) → candidate_kept b n ≡ Some c → now.0 < c.until.0 → rule_at b n now ≡ c.rule
  pub neutral : (c : Candidate) → candidate_kept b n ≡ Some c → c.until.0 ≤ now.0 → rule_at b n now ≡ rule.Neutral

-- ---- a round of a single command

-- it is a turn of the job, and each server fetches, applies and is polled
pub record RunsAllServers (s : State) (job : ℕ) : Type 0 where
  pub first : (rest : List Turn) × (round_of s job ≡ turn.Act (act.Job job) ∷ rest)
  pub fetches : (n : ServerNo) → Contains (by_name s.book.names) n → Contains (round_of s job) (turn.Step (turns_step.Fetch n))
  pub applies : (n : ServerNo) → Contains (by_name s.book.names) n → Contains (round_of s job) (turn.Step (turns_step.Apply n))
  pub reads : (n : ServerNo) → Contains (by_name s.book.names) n → Contains (round_of s job) (turn.Act (act.PollRead 0 n))

-- ---- a server

-- a write is refused by a server that is down or read-only, and then changes nothing; another one executes it, if it
-- has room, as the last of its history
pub record AnswersWrites (w : World) (n size : ℕ) (s : Server) : Type 0 where
  pub down : s.up ≡ false → write w n size ≡ (wrote.Down, w)
  pub read_only : s.up ≡ true → s.read_only ≡ true → write w n size ≡ (wrote.ReadOnly, w)
  pub full : s.up ≡ true → s.read_only ≡ false → s.history.room ≤ length s.history.txns → write w n size ≡ (wrote.Full, w)
  pub done : s.up ≡ true → s.read_only ≡ false → length s.history.txns < s.history.room
      → (seq : ℕ) × ((write w n size).0 ≡ wrote.Done seq) × ((t : Server) → server_at (write w n size).1 n ≡ Some t → t.history.txns ≡ s.history.txns ++ record { origin = record { 0 = n }; seq = seq; size = size } ∷ [])

-- A server that starts again starts the threads of a replica, without an end up to which its applier was to go. It
-- stays read-only, or not, as it was. One that is up stays as it is.
pub record StartsAgain (s t : Server) : Type 0 where
  pub up : t.up ≡ true
  pub was : s.up ≡ true → t ≡ s
  pub until : s.up ≡ false → t.until ≡ None
  pub replica : s.up ≡ false → is_attached s.source ≡ true → (t.receiver ≡ true) × (t.applier ≡ true)
  pub other : s.up ≡ false → is_attached s.source ≡ false → (t.receiver ≡ s.receiver) × (t.applier ≡ s.applier)
  pub stays : (t.source ≡ s.source) × (t.read_only ≡ s.read_only) × (t.history ≡ s.history)
  pub coordinates : (t.exec ≡ s.exec) × (t.read ≡ s.read) × (t.auto ≡ s.auto)

-- START REPLICA starts both threads of an attached server, without such an end; STOP REPLICA stops both, and drops it
pub record StartsAndStops (s t u : Server) : Type 0 where
  pub started : is_attached s.source ≡ true → (t.receiver ≡ true) × (t.applier ≡ true) × (t.until ≡ None)
  pub stopped : (u.receiver ≡ false) × (u.applier ≡ false) × (u.until ≡ None)

-- A server that is attached goes on below its new source, from the coordinate up to which it has read. Its threads are
-- off, and such an end is dropped. By a coordinate auto position is off, and by a set it is on.
pub record GoesOn (to : ServerNo) (auto : Bool) (s t : Server) : Type 0 where
  pub source : t.source ≡ Attached to
  pub read : t.read ≡ t.exec
  pub by_set : t.auto ≡ auto
  pub until : t.until ≡ None
  pub threads : (t.receiver ≡ false) × (t.applier ≡ false)
  pub stays : (t.read_only ≡ s.read_only) × (t.history ≡ s.history) × (t.settings ≡ s.settings)

-- what each exchange leaves of its server
abbrev pub ServersByTable : Type 0
ServersByTable = (w : World) (n : ℕ) (s t : Server) → server_at w n ≡ Some s → server_at (after w (exchange.Befall n event.Heal)) n ≡ Some t → StartsAgain s t

abbrev pub ThreadsByTable : Type 0
ThreadsByTable = (s : Server) → StartsAndStops s (asked asking.Start s) (asked (asking.Stop threads.Both) s)

abbrev pub AttachesByTable : Type 0
AttachesByTable = (w : World) (n : ℕ) (expect : Spot) (to : ServerNo) (at : Coord) (s t : Server) → server_at w n ≡ Some s → (attach_at w n expect to at).0 ≡ Ok tt
    → server_at (after w (exchange.Attach n expect to at)) n ≡ Some t → GoesOn to false s t × (t.exec ≡ at)

abbrev pub AttachesBySet : Type 0
AttachesBySet = (w : World) (n : ℕ) (seen : Position) (to : ServerNo) (s t : Server) → server_at w n ≡ Some s → (attach_auto w n seen.set to).0 ≡ Ok tt
    → server_at (after w (exchange.AttachAuto n seen.set to)) n ≡ Some t → GoesOn to true s t

abbrev pub WritesByTable : Type 0
WritesByTable = (w : World) (n size : ℕ) (s : Server) → server_at w n ≡ Some s → AnswersWrites w n size s

-- ---- a status

-- its receiver is on and connected: its source is up, and it reaches that one
pub record IsConnected (w : World) (s : Server) : Type 0 where
  pub receiver : s.receiver ≡ true
  pub feed : s.feed ≡ true
  pub source : Server
  pub below : source_at w s ≡ Some source
  pub up : source.up ≡ true

-- A status that reaches its server reports its source, both coordinates, its applier, auto position and read_only as
-- they are. Its receiver is `Yes` exactly if it is connected, and `No` exactly if it is off.
pub record ShowsServer (w : World) (s : Server) (seen : Status) : Type 0 where
  pub reached : (s.up && s.desk) ≡ true
  pub source : seen.source ≡ s.source
  pub coordinates : (seen.exec ≡ s.exec) × (seen.read ≡ s.read)
  pub applier : seen.sql ≡ s.applier
  pub settings : (seen.auto ≡ s.auto) × (seen.read_only ≡ s.read_only)
  pub yes : seen.io ≡ io.Yes → IsConnected w s
  pub connected : IsConnected w s → seen.io ≡ io.Yes
  pub no : seen.io ≡ io.No → s.receiver ≡ false
  pub off : s.receiver ≡ false → seen.io ≡ io.No

-- so each does, and one that doesn't reach its server finds it down or unreachable
pub record StatusesByTable (w : World) (n : ℕ) (s : Server) : Type 0 where
  pub shows : (seen : Status) → server_at w n ≡ Some s → seen_in (status w n) ≡ Some seen → ShowsServer w s seen
  pub away : server_at w n ≡ Some s → seen_in (status w n) ≡ None → (s.up && s.desk) ≡ false
