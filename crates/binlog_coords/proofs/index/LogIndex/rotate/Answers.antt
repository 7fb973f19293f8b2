use Rattle.std.proofs.Common.{rules}
use Rattle.binlog_coords.proofs.Halves.{LieBetween-later, before-next}
use Rattle.binlog_coords.proofs.index.LogIndex.rotate.Goals as goal

pub invariant_of-self : goal.invariant_of-self
invariant_of-self c = record {
  in_range = search rules;
  reserved = c.self.invariant.reserved;
  in_order = LieBetween-later _ _ _ _ c.self.invariant.in_order (before-next c.self.inside.files c.self.inside.pos);
}
