-- Two servers as a scenario gives them, field by field.
use Rattle.std.specs.Prelude.{◌≡◌}
use Rattle.openings.specs.declared.init.ServerInit.{ServerInit}

-- what doesn't speak of a source is equal
pub record IsSameServer (i j : ServerInit) : Type 0 where
  pub settings : i.settings ≡ j.settings
  pub history : i.history ≡ j.history
  pub flushes : i.flushes ≡ j.flushes
  pub purged : i.purged ≡ j.purged
  pub read_only : i.read_only ≡ j.read_only
  pub up : i.up ≡ j.up
  pub desk : i.desk ≡ j.desk
  pub feed : i.feed ≡ j.feed

-- what speaks of a source is equal
pub record IsSameReplica (i j : ServerInit) : Type 0 where
  pub source : i.source ≡ j.source
  pub executed : i.executed ≡ j.executed
  pub at : i.at ≡ j.at
  pub read : i.read ≡ j.read
  pub until : i.until ≡ j.until
  pub io : i.io ≡ j.io
  pub sql : i.sql ≡ j.sql
  pub auto : i.auto ≡ j.auto
  pub detached : i.detached ≡ j.detached
