-- A change of source by a coordinate (MySQL 8.0 Reference Manual, "CHANGE REPLICATION SOURCE TO Statement").
use Rattle.std.specs.Prelude.{◌≡◌, ℕ, ◌==◌, Bool, true, false, ◌&&◌, ◌||◌, not, nat_lt, if◌then◌else◌, length, Option, Some, None, Result, Ok, Err, zero, suc}
use Rattle.server_model.specs.Prelude.{Attached, AttachFault, Coord, Detached, ServerNo, SourceState, Spot, Without, end_of, has_place, same_coord}
use Rattle.server_model.specs.Prelude.attaching
use Rattle.server_model.specs.Prelude.spot
use Rattle.server_model.specs.declared.server.Server.{Server}
use Rattle.server_model.specs.Worlds.{World, server_at, sources, with_server}

-- the position of a server with a source
abbrev pub spot_below : Server → SourceState → Spot
spot_below s Without = spot.Nowhere
spot_below s (Attached m) = spot.At m s.exec
spot_below s (Detached m) = spot.At m s.exec

-- the server's live position, of the kind that is expected
abbrev pub live_spot : Server → Spot → Spot
live_spot s (spot.At m exec) = spot_below s s.source
live_spot s (spot.OwnEnd at) = if s.settings.logs then spot.OwnEnd (end_of s.log.log) else spot.Nowhere
live_spot s spot.Nowhere = spot.Nowhere

abbrev pub same_spot : Spot → Spot → Bool
same_spot (spot.At m c) (spot.At n d) = m.0 == n.0 && same_coord c d
same_spot (spot.OwnEnd c) (spot.OwnEnd d) = same_coord c d
same_spot _ _ = false

-- whether the chain of sources from a server meets another; one that is longer than the number of steps counts as
-- meeting it
abbrev pub chain_on : (ℕ → Bool) → Option ℕ → Bool
chain_on go None = false
chain_on go (Some m) = go m

abbrev pub chain_meets : (ℕ → Option ℕ) → ℕ → ℕ → ℕ → Bool
chain_meets up zero from number = true
chain_meets up (suc steps) from number = from == number || chain_on (λ m. chain_meets up steps m number) (up from)

-- the first file that the log of a server keeps
abbrev pub first_kept : Option Server → ℕ
first_kept None = 1
first_kept (Some s) = s.first

-- what is answered by whether the new source, which keeps its log from this file on, has purged what is needed of it
abbrev pub purged_answer : Bool → ℕ → Result (Unit {0}) AttachFault
purged_answer true first = Err (attaching.Purged first)
purged_answer false first = Ok tt

-- what is answered under a source that keeps its log from this file on
abbrev pub attach_decision : Server → Spot → Bool → ℕ → Coord → Result (Unit {0}) AttachFault
attach_decision s expect loops first at =
    if not (s.up && s.desk) then Err attaching.Unreachable
    else if s.receiver || s.applier then Err (attaching.Running (spot_below s s.source))
    else if not (same_spot expect (live_spot s expect)) then Err (attaching.Interfered expect (live_spot s expect))
    else if loops then Err attaching.Loop
    else purged_answer (nat_lt at.file first) first

abbrev pub attach_answer : World → ℕ → Spot → ℕ → Coord → Option Server → Result (Unit {0}) AttachFault
attach_answer w n expect to at None = Err attaching.Unreachable
attach_answer w n expect to at (Some s) =
    attach_decision s expect (chain_meets (sources w) (length w.servers) to n) (first_kept (server_at w to)) at

abbrev pub attached_to : ServerNo → Coord → Server → Server
attached_to to at s = record s { source = Attached to; exec = at; read = at; auto = false; until = None; receiver = false; applier = false }

abbrev pub after_attach : World → ℕ → ServerNo → Coord → Option Server → Result (Unit {0}) AttachFault → World
after_attach w n to at None answer = w
after_attach w n to at (Some s) (Err fault) = w
after_attach w n to at (Some s) (Ok t) = with_server w n (attached_to to at s)

-- an attachment by a coordinate
abbrev pub attach_at : World → ℕ → Spot → ServerNo → Coord → Result (Unit {0}) AttachFault × World
attach_at w n expect to at = let answer = attach_answer w n expect to.0 at (server_at w n) in (answer, after_attach w n to at (server_at w n) answer)

-- the coordinate has a place in the log of a server that is there and logs
pub record IsTarget (w : World) (to : ℕ) (at : Coord) : Type 0 where
  pub target : Server
  pub there : server_at w to ≡ Some target
  pub logs : target.settings.logs ≡ true
  pub place : has_place target.log.log at ≡ true
