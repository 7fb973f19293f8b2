use Rattle.std.proofs.Common.{ap}
use Rattle.binlog_coords.proofs.Prelude.{Index}
use Rattle.binlog_coords.proofs.Halves.{coord_after-last}
use Rattle.binlog_coords.proofs.index.LogIndex.coord_after.Goals as goal

pub returns-else-k-eq0 : goal.returns-else-k-eq0
returns-else-k-eq0 c =
    coord_after-last c.args.self.now.log c.self.inside.slots.items c.args.k c.index.result.now c.end_coord.result
    (ap (λ (x : Index). x.log.entries) c.self.view_is) c.if-k-eq0.false c.requires c.index.ensures c.end_coord.ensures
