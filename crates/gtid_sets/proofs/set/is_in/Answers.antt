use Rattle.std.proofs.Common.{◌≡◌, get_or, not, ltb, ap, arith, ◌∙◌}
use Rattle.gtid_sets.proofs.Prelude.{Interval, le-ltb, low, point}
use Rattle.gtid_sets.proofs.Search.{found_at, found_not, same_point, holds_at}
use Rattle.gtid_sets.proofs.set.is_in.Goals as goal

pub returns-then-at-intervals : goal.returns-then-at-intervals
returns-then-at-intervals c =
    let d : Interval = record { uuid = 0; first = 0; last = 0 } in
    let found = get_or c.args.intervals.now c.first_reaching-at.result d in
    let at : point c.start.result.uuid c.start.result.n ≡ low found = same_point c.start.ensures.uuid c.start.ensures.n in
    ap not c.is_before.ensures ∙ ap (λ x. not (ltb (point c.args.gtid.uuid c.args.gtid.n) x)) at
    ∙ found_at c.args.intervals.now c.first_reaching-at.result d c.args.gtid.uuid c.args.gtid.n c.requires (search arith) c.if-at-intervals.true c.first_reaching-at.ensures.below c.first_reaching-at.ensures.above

pub returns-else-at-intervals : goal.returns-else-at-intervals
returns-else-at-intervals c =
    holds_at (found_not c.args.intervals.now c.first_reaching-at.result c.args.gtid.uuid c.args.gtid.n c.requires (search arith) c.if-at-intervals.false c.first_reaching-at.ensures.below)
    (le-ltb _ _ c.if-at-intervals.false)
