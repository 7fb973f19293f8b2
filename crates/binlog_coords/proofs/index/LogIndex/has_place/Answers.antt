use Rattle.std.proofs.Common.{refl, ap, map}
use Rattle.binlog_coords.proofs.Prelude.{Index, entry_of}
use Rattle.binlog_coords.proofs.Halves.{has_place-by}
use Rattle.binlog_coords.proofs.index.LogIndex.has_place.Goals as goal

pub returns-then-is_same : goal.returns-then-is_same
returns-then-is_same c =
    let place = has_place-by _ _ c.args.c _ _ _ _ _ _ (ap (λ (x : Index). x.log) c.self.view_is) c.self.invariant.in_order c.requires c.is_file_start.ensures c.coord_after.ensures c.is_same.ensures refl refl in
    rw (place, c.if-is_file_start.false, c.if-is_same.true) refl

pub returns-else-is_same : goal.returns-else-is_same
returns-else-is_same c =
    let place = has_place-by _ _ c.args.c _ _ _ _ _ _ (ap (λ (x : Index). x.log) c.self.view_is) c.self.invariant.in_order c.requires c.is_file_start.ensures c.coord_after.ensures c.is_same.ensures (ap (map entry_of) c.deref.ensures.value) c.starts_at.ensures in
    rw (place, c.if-is_file_start.false, c.if-is_same.false) refl
