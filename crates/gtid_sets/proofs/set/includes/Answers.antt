use Rattle.std.proofs.Common.{◌≡◌, get_or, sym, ◌∙◌, arith}
use Rattle.gtid_sets.proofs.Prelude.{Interval, high, low, ltb-false, ltb-true, point}
use Rattle.gtid_sets.proofs.Search.{misses_all, misses_first, misses_last, on_false_not, same_point}
use Rattle.gtid_sets.proofs.set.includes.Goals as goal

pub returns-then-at-intervals-clause-no : goal.returns-then-at-intervals-clause-no
returns-then-at-intervals-clause-no c =
    let part = c.args.part.now in
    let at : point c.start.result.uuid c.start.result.n ≡ low part = same_point c.start.ensures.uuid c.start.ensures.n in
    misses_all c.args.intervals.now c.first_reaching-at.result part c.requires.whole c.requires.part c.if-at-intervals.true
    (λ k d l r. let b = c.first_reaching-at.ensures.below k d l r in omega arith)

pub returns-then-not-is_before-clause-no : goal.returns-then-not-is_before-clause-no
returns-then-not-is_before-clause-no c =
    let d : Interval = record { uuid = 0; first = 0; last = 0 } in
    let part = c.args.part.now in
    let found = get_or c.args.intervals.now c.first_reaching-at.result d in
    let at : point c.start.result.uuid c.start.result.n ≡ low part = same_point c.start.ensures.uuid c.start.ensures.n in
    let begin : point c.start-2.result.uuid c.start-2.result.n ≡ low part = same_point c.start-2.ensures.uuid c.start-2.ensures.n in
    let found_at : point c.start-3.result.uuid c.start-3.result.n ≡ low found = same_point c.start-3.ensures.uuid c.start-3.ensures.n in
    let end : point c.end.result.uuid c.end.result.n ≡ high part = same_point c.end.ensures.uuid c.end.ensures.n in
    let not_before = ltb-false _ _ (sym c.is_before.ensures ∙ c.if-not-is_before.true) in
    let reaches = c.first_reaching-at.ensures.above c.first_reaching-at.result d (omega arith) c.if-at-intervals.false in
    on_false_not _ _ c.ends_before.ensures (λ yes. let less = ltb-true _ _ yes in
    misses_last c.args.intervals.now c.first_reaching-at.result d part c.requires.whole c.requires.part c.if-at-intervals.false (omega arith) (omega arith) (omega arith))

pub returns-else-not-is_before-clause-no : goal.returns-else-not-is_before-clause-no
returns-else-not-is_before-clause-no c =
    let d : Interval = record { uuid = 0; first = 0; last = 0 } in
    let part = c.args.part.now in
    let found = get_or c.args.intervals.now c.first_reaching-at.result d in
    let at : point c.start.result.uuid c.start.result.n ≡ low part = same_point c.start.ensures.uuid c.start.ensures.n in
    let begin : point c.start-2.result.uuid c.start-2.result.n ≡ low part = same_point c.start-2.ensures.uuid c.start-2.ensures.n in
    let found_at : point c.start-3.result.uuid c.start-3.result.n ≡ low found = same_point c.start-3.ensures.uuid c.start-3.ensures.n in
    on_false_not _ _ c.is_before.ensures (λ yes. let less = ltb-true _ _ yes in
    misses_first c.args.intervals.now c.first_reaching-at.result d part c.requires.whole c.requires.part c.if-at-intervals.false
    (λ k e l r. let b = c.first_reaching-at.ensures.below k e l r in omega arith) (omega arith))
