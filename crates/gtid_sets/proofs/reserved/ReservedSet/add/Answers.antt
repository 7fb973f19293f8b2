use Rattle.std.proofs.Common.{◌<◌, length, arith, sym, subst}
use Rattle.gtid_sets.proofs.Prelude.{IsSet, Reserved, single}
use Rattle.gtid_sets.proofs.Inserts.{IsSet-with_pair, IsInterval-single, length-inserted}
use Rattle.gtid_sets.proofs.reserved.ReservedSet.add.Goals as goal

pub insert_gtid-requires-clause-one : goal.insert_gtid-requires-clause-one
insert_gtid-requires-clause-one c = IsInterval-single c.args.uuid c.args.n (search arith) c.requires.above_zero c.requires.in_range

pub insert_gtid-requires-clause-room : goal.insert_gtid-requires-clause-room
insert_gtid-requires-clause-room c =
    let room : length c.self.inside.intervals.items < c.self.inside.room = subst (λ (r : Reserved). length r.intervals < r.room) (sym c.self.view_is) c.requires.room in
    let reserved = c.self.invariant.reserved in
    omega (arith, room, reserved)

pub invariant_of-self : goal.invariant_of-self
invariant_of-self c =
    let room : length c.self.inside.intervals.items < c.self.inside.room = subst (λ (r : Reserved). length r.intervals < r.room) (sym c.self.view_is) c.requires.room in
    let longer = length-inserted c.self.inside.intervals.items (single c.args.uuid c.args.n) in
    let reserved = c.self.invariant.reserved in
    record {
      set = subst IsSet (sym c.insert_gtid.ensures.items) (IsSet-with_pair c.self.inside.intervals.items c.args.uuid c.args.n c.self.invariant.set (search arith) c.requires.above_zero c.requires.in_range);
      reserved = let capacity = c.insert_gtid.ensures.capacity in omega (arith, reserved, capacity);
      within = rw c.insert_gtid.ensures.items (omega (arith, room, longer));
      shared = tt;
    }
