use Rattle.std.proofs.Common.{ap, map}
use Rattle.binlog_coords.proofs.Prelude.{Index, entry_of}
use Rattle.binlog_coords.proofs.Halves.{next_after-begun, next_after-elsewhere, next_after-past}
use Rattle.binlog_coords.proofs.index.LogIndex.next_after.Goals as goal
use Rattle.binlog_coords.proofs.index.LogIndex.next_after.Goals.{in_default-via-in-Some+else-is_same, in_default-via-in_default}

pub returns-in-Some : goal.returns-in-Some
returns-in-Some c =
    next_after-begun _ _ c.args.c _ _ _ _ c.in-Some.slot.now _ (ap (λ (x : Index). x.log) c.self.view_is) c.self.invariant.in_order c.count_ended-k.ensures (ap (map entry_of) c.deref.ensures.value) c.in-Some.ensures.lookup.3 c.start_coord.ensures c.is_same.ensures c.if-is_same.true c.end_coord.ensures

pub returns-in_default : goal.returns-in_default
returns-in_default c = elim c.in_default.branch [
  | in_default-via-in-Some+else-is_same w ↦
      next_after-elsewhere _ _ c.args.c _ _ _ w.in-Some.slot.now _ _ (ap (λ (x : Index). x.log) c.self.view_is) c.self.invariant.in_order c.count_ended-k.ensures (ap (map entry_of) c.deref.ensures.value) w.in-Some.ensures.lookup.3 w.start_coord.ensures w.is_same.ensures w.if-is_same.false c.next_file.ensures
  | in_default-via-in_default w ↦
      next_after-past _ _ c.args.c _ _ _ (ap (λ (x : Index). x.log) c.self.view_is) c.self.invariant.in_order c.count_ended-k.ensures (ap (map entry_of) c.deref.ensures.value) w.in_default.ensures.lookup.3 c.next_file.ensures
]
