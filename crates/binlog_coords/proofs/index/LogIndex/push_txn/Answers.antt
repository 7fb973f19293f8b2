use Rattle.std.proofs.Common.{◌<◌, ◌+◌, arith, ap, length, rules}
use Rattle.binlog_coords.proofs.Prelude.{Index, length-map, txn_of}
use Rattle.binlog_coords.proofs.Halves.{LieBetween-appended, LieBetween-filled, entries-count, entries-pushed}
use Rattle.binlog_coords.proofs.index.LogIndex.push_txn.Goals as goal

pub invariant_of-self : goal.invariant_of-self
invariant_of-self c =
    let size : c.self.inside.pos < c.self.inside.pos + c.args.t.size = omega (arith, c.requires.some) in
    let entries = entries-pushed c.self.inside.slots.items c.push_reserved.new.self.items _ c.push_reserved.ensures.items in
    let seen = ap (λ (x : Index). length x.txns) c.self.view_is in
    let before = length-map c.self.inside.slots.items txn_of in
    let count = ap length entries in
    record {
      in_range = search (rules, seen, before, count, entries-count);
      reserved = search rules;
      in_order = LieBetween-filled c.self.inside.files c.self.inside.pos _ _ _ c.self.invariant.in_order size entries;
    }

pub invariant_of-self-else-self-end : goal.invariant_of-self-else-self-end
invariant_of-self-else-self-end c =
    let size : c.self.inside.pos < c.self.inside.pos + c.args.t.size = omega (arith, c.requires.some) in
    let entries = entries-pushed c.self.inside.slots.items c.push_reserved.new.self.items _ c.push_reserved.ensures.items in
    let seen = ap (λ (x : Index). length x.txns) c.self.view_is in
    let before = length-map c.self.inside.slots.items txn_of in
    let count = ap length entries in
    record {
      in_range = search (rules, seen, before, count, entries-count);
      reserved = search rules;
      in_order = rw c.from.ensures (LieBetween-appended c.self.inside.files c.self.inside.pos _ _ _ c.self.invariant.in_order size entries);
    }
