use Rattle.std.specs.Prelude.{◌≡◌}
use Rattle.server_model.specs.Fit.{own_counts, IsKept}
use Rattle.server_model.specs.Gtids.{AreGtids}
use Rattle.server_model.specs.Worlds.{World}
use Rattle.server_model.specs.declared.world.World.TheInside.{Inside}

abbrev pub world_of : Inside → World
world_of a = record { servers = a.servers.items; gtid = a.gtid; errant = a.errant }

pub record IsKeptInside (a : Inside) : Type 0 where
  pub kept : IsKept a.servers.items a.errant
  pub own : a.own.items ≡ own_counts a.servers.items
  pub gtids : AreGtids a.servers.items a.executed.items a.purged.items a.gtid
