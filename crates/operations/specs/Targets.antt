-- Whether a change of source can be made.
use Rattle.std.specs.Prelude.{Bool, false, ◌&&◌, Option, Some, None}
use Rattle.operations.specs.Prelude.{Apply, Attach, AttachAuto, Befall, Coord, Exchange, Fetch, Purge, Request, Rotate, Server, World, Write}
use Rattle.operations.specs.Prelude.{has_place, server_at}

-- a server is there and logs
abbrev pub logs_by : Option Server → Bool
logs_by None = false
logs_by (Some s) = s.settings.logs

-- and the coordinate has a place in its log
abbrev pub places_by : Option Server → Coord → Bool
places_by None at = false
places_by (Some s) at = s.settings.logs && has_place s.log.log at

-- the coordinate has a place in the log of the new source; by a set, GTIDs are used and the new source logs. No other
-- exchange attaches a server.
abbrev pub can_attach : World → Exchange → Bool
can_attach w (Attach n expect to at) = places_by (server_at w to.0) at
can_attach w (AttachAuto n observed to) = w.gtid && logs_by (server_at w to.0)
can_attach w (Write n size) = false
can_attach w (Fetch n) = false
can_attach w (Apply n) = false
can_attach w (Request n a) = false
can_attach w (Befall n e) = false
can_attach w (Rotate n) = false
can_attach w (Purge n file) = false
