use Rattle.std.proofs.Common.{◌≡◌, ◌<◌, ◌≤◌, List, length, drop, true, false, arith, rules, sym, ◌∙◌, ap, subst, ◌-◌}
use Rattle.gtid_sets.proofs.Prelude.{All, AllWithin, Interval, IsInterval, high, point, touches_first}
use Rattle.gtid_sets.proofs.Inserts.{IsOnTheWay-first, IsOnTheWay-next, IsOnTheWay-last, touches-there}
use Rattle.gtid_sets.proofs.reserved.insert_gtid.Goals as goal

pub absorb-init : goal.absorb-init
absorb-init c =
    let items = c.args.intervals.now.items in
    let slice : c.deref.result.now ≡ items = c.deref.ensures.value in
    let at = c.first_reaching-at.result in
    let u = c.args.gtid.uuid in
    let n = c.args.gtid.n in
    record {
      way = IsOnTheWay-first u n at items c.requires.set c.requires.one
          (subst (λ (xs : List Interval). at ≤ length xs) slice c.first_reaching-at.ensures.within)
          (subst (λ (xs : List Interval). AllWithin (λ s. high s < point u (n - 1)) xs 0 at) slice c.first_reaching-at.ensures.below)
          (subst (λ (xs : List Interval). AllWithin (λ s. point u (n - 1) ≤ high s) xs at (length xs)) slice c.first_reaching-at.ensures.above);
      room = search rules;
    }

pub touches_at-requires-clause-whole : goal.touches_at-requires-clause-whole
touches_at-requires-clause-whole c = c.absorb.invariant.way.one

pub touches_at-requires-clause-each : goal.touches_at-requires-clause-each
touches_at-requires-clause-each c = subst (All IsInterval) (sym c.deref-in-absorb.ensures.value) c.absorb.invariant.way.each

pub absorb-preserved : goal.absorb-preserved
absorb-preserved c =
    let e : touches_first c.absorb.whole (drop c.first_reaching-at.result c.absorb.intervals.items) ≡ true =
    ap (λ (xs : List Interval). touches_first c.absorb.whole (drop c.first_reaching-at.result xs)) (sym c.deref-in-absorb.ensures.value) ∙ sym c.touches_at.ensures ∙ c.absorb-test.true in
    record {
      way = rw (c.remove-next.ensures.items, c.merged-whole.ensures)
          (IsOnTheWay-next c.args.gtid.uuid c.args.gtid.n c.first_reaching-at.result c.args.intervals.now.items c.absorb.intervals.items c.absorb.whole c.remove-next.result
          c.absorb.invariant.way e c.remove-next.ensures.value);
      room = c.remove-next.ensures.capacity ∙ c.absorb.invariant.room;
    }

pub remove-next-requires : goal.remove-next-requires
remove-next-requires c =
    let e : touches_first c.absorb.whole (drop c.first_reaching-at.result c.absorb.intervals.items) ≡ true =
    ap (λ (xs : List Interval). touches_first c.absorb.whole (drop c.first_reaching-at.result xs)) (sym c.deref-in-absorb.ensures.value) ∙ sym c.touches_at.ensures ∙ c.absorb-test.true in
    let there = touches-there c.absorb.intervals.items c.first_reaching-at.result c.absorb.whole e in
    omega (arith, there)

pub insert-requires : goal.insert-requires
insert-requires c = let w = c.absorb.invariant.way.within in omega (arith, w)

pub returns-in-Ok-clause-items : goal.returns-in-Ok-clause-items
returns-in-Ok-clause-items c =
    let e : touches_first c.absorb.whole (drop c.first_reaching-at.result c.absorb.intervals.items) ≡ false =
    ap (λ (xs : List Interval). touches_first c.absorb.whole (drop c.first_reaching-at.result xs)) (sym c.deref-in-absorb.ensures.value) ∙ sym c.touches_at.ensures ∙ c.absorb-test.false in
    c.in-Ok.ensures.items ∙ IsOnTheWay-last c.args.gtid.uuid c.args.gtid.n c.first_reaching-at.result c.args.intervals.now.items c.absorb.intervals.items c.absorb.whole c.absorb.invariant.way e

pub returns-in-Ok-clause-capacity : goal.returns-in-Ok-clause-capacity
returns-in-Ok-clause-capacity c = omega (arith, c.absorb.invariant.room, c.in-Ok.ensures.capacity)

pub returns-in-Err-clause-items : goal.returns-in-Err-clause-items
returns-in-Err-clause-items c =
    let l = c.absorb.invariant.way.long in
    absurd (omega (arith, c.requires.room, c.absorb.invariant.room, c.in-Err.ensures.full, l))

pub returns-in-Err-clause-capacity : goal.returns-in-Err-clause-capacity
returns-in-Err-clause-capacity c = omega (arith, c.absorb.invariant.room, c.in-Err.ensures.capacity)
