-- What a status shows of a server, in every world of a run.
use Rattle.std.specs.Prelude.{◌≡◌, ℕ, true, List, Option, Some}
use Rattle.server_model.specs.Prelude.{Coord, Interval, SourceState, Status, is_at_or_before}
use Rattle.server_model.specs.declared.server.Server.{Server}
use Rattle.server_model.specs.Attach.{IsTarget}
use Rattle.server_model.specs.Worlds.{World, server_at, source_no}
use Rattle.server_model.specs.Observed.{HasExecuted}

-- The position of a server. Its own end has a place in its own log, and there is one if it logs. Under a source,
-- attached or detached, its executed coordinate has a place in the source's log. It has executed the set.
pub record IsPosition (w : World) (n : ℕ) (own_end : Option Coord) (source : SourceState) (exec : Coord) (executed : List Interval) : Type 0 where
  pub own : (c : Coord) → own_end ≡ Some c → IsTarget w n c
  pub logs : (s : Server) → server_at w n ≡ Some s → s.settings.logs ≡ true → (c : Coord) × (own_end ≡ Some c)
  pub under : (m : ℕ) → source_no source ≡ Some m → IsTarget w m exec
  pub set : HasExecuted w n executed

-- A status has the position of its server. Under a source its read coordinate has a place in the source's log too, not
-- before the executed one.
pub record Shows (w : World) (n : ℕ) (seen : Status) : Type 0 where
  pub at : IsPosition w n seen.own_end seen.source seen.exec seen.set
  pub read : (m : ℕ) → source_no seen.source ≡ Some m → IsTarget w m seen.read
  pub order : (m : ℕ) → source_no seen.source ≡ Some m → is_at_or_before seen.exec seen.read ≡ true
