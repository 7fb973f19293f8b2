-- What contracts see of a server.
use Rattle.std.specs.Prelude.{ℕ, Bool, Option}
use Rattle.server_model.specs.Prelude.{Coord, Index, Settings, SourceState}
use Rattle.server_model.specs.Kept.{Kept}

-- Its settings, what it has executed, and its binary log, which stays empty if it doesn't log. Then the first file that
-- the log keeps, and its position in its source's log. The rest is as in the struct.
pub record Server : Type 0 where
  pub settings : Settings
  pub history : Kept
  pub log : Index
  pub first : ℕ
  pub source : SourceState
  pub exec : Coord
  pub read : Coord
  pub auto : Bool
  pub receiver : Bool
  pub applier : Bool
  pub until : Option Coord
  pub read_only : Bool
  pub up : Bool
  pub desk : Bool
  pub feed : Bool
