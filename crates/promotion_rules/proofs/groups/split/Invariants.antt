use Rattle.std.proofs.Common.{◌≡◌, take}
use Rattle.promotion_rules.proofs.Prelude.{ahead_in, behind_in, follow_in, group_of}
use Rattle.promotion_rules.proofs.groups.split.Given as goal

-- the three lists are those of the replicas so far
abbrev pub invariant-loop-replica : goal.invariant-loop-replica
invariant-loop-replica l = record {
  follow : l.groups.follow.items ≡ follow_in (group_of l.by.book.now.rings l.promoted l.by.own_end l.by.exec l.source) (take l.replica-index l.drained);
  ahead : l.groups.ahead.items ≡ ahead_in (group_of l.by.book.now.rings l.promoted l.by.own_end l.by.exec l.source) (take l.replica-index l.drained);
  behind : l.groups.behind.items ≡ behind_in (group_of l.by.book.now.rings l.promoted l.by.own_end l.by.exec l.source) (take l.replica-index l.drained);
}
