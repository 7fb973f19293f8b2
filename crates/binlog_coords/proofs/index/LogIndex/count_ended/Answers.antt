use Rattle.std.proofs.Common.{◌∙◌, rules, sym, ap}
use Rattle.binlog_coords.proofs.Prelude.{Index, IsPartitionPoint-from_clause}
use Rattle.binlog_coords.proofs.Halves.{slot_ends, ended-before, boundary-by, count-at_last}
use Rattle.binlog_coords.proofs.index.LogIndex.count_ended.Goals as goal

pub returns-in-Some : goal.returns-in-Some
returns-in-Some c =
    let count = count-at_last c.args.c _ _ _ _ _ c.in-Some.last.now _ _ _ (ap (λ (x : Index). x.log.entries) c.self.view_is) c.self.invariant.in_order c.deref.ensures.value c.in-Some.ensures.item.3 (c.deref.ensures.len ∙ sym c.len.ensures) c.start_coord.ensures c.is_at_or_before.ensures c.if-is_at_or_before.true c.ends_by.ensures in
    rw c.from.ensures count

pub returns-in_default : goal.returns-in_default
returns-in_default c =
    let point = IsPartitionPoint-from_clause (slot_ends c.args.c) _ _ c.partition_point.ensures.partitioned (rw c.deref-in_default.ensures.value (ended-before c.args.c _ _ _ c.self.invariant.in_order)) (λ a r q k. search rules) in
    boundary-by c.args.c _ _ _ _ _ (ap (λ (x : Index). x.log.entries) c.self.view_is) c.self.invariant.in_order c.deref-in_default.ensures.value c.partition_point.ensures.bound point
