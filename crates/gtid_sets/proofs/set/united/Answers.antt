use Rattle.std.proofs.Common.{◌+◌, ◌<◌, ◌≤◌, length, get_or, arith}
use Rattle.gtid_sets.proofs.Prelude.{AllWithin, Interval, low}
use Rattle.gtid_sets.proofs.Points.{first_more, second_more, order_more, rises, rises_past}
use Rattle.gtid_sets.proofs.set.united.Goals as goal

pub merge-preserved-then-is_next : goal.merge-preserved-then-is_next
merge-preserved-then-is_next c =
    let these = c.args.these.now in
    let those = c.args.those.now in
    let d : Interval = record { uuid = 0; first = 0; last = 0 } in
    let s = get_or these c.merge.i d in
    let within : c.merge.i < length these = c.if-is_next.ensures.in_these in
    let up = rises these c.merge.i d c.requires.these within in
    let past : AllWithin (λ t. low s ≤ low t) these (c.merge.i + 1) (length these) = λ k e l r. up k e (omega arith) r in
    let other = rises_past those c.merge.j d s c.requires.those (c.if-is_next.ensures.this d) in
    let ordered = c.in_ok-append.ensures.order in
    record {
      i_in = omega arith;
      j_in = c.merge.invariant.j_in;
      has = first_more these those c.merge.both c.append.new.self c.merge.i c.merge.j d within c.merge.invariant.has c.in_ok-append.ensures.has;
      first = order_more these c.append.new.self (c.merge.i + 1) s ordered past;
      second = order_more those c.append.new.self c.merge.j s ordered other;
    }

pub merge-preserved : goal.merge-preserved
merge-preserved c =
    let these = c.args.these.now in
    let those = c.args.those.now in
    let d : Interval = record { uuid = 0; first = 0; last = 0 } in
    let s = get_or those c.merge.j d in
    let within : c.merge.j < length those = c.if-is_next.ensures.in_those in
    let up = rises those c.merge.j d c.requires.those within in
    let past : AllWithin (λ t. low s ≤ low t) those (c.merge.j + 1) (length those) = λ k e l r. up k e (omega arith) r in
    let other = rises_past these c.merge.i d s c.requires.these (c.if-is_next.ensures.that d) in
    let ordered = c.in_ok-append-2.ensures.order in
    record {
      i_in = c.merge.invariant.i_in;
      j_in = omega arith;
      has = second_more these those c.merge.both c.append-else-is_next.new.self c.merge.i c.merge.j d within c.merge.invariant.has c.in_ok-append-2.ensures.has;
      first = order_more these c.append-else-is_next.new.self c.merge.i s ordered other;
      second = order_more those c.append-else-is_next.new.self (c.merge.j + 1) s ordered past;
    }
