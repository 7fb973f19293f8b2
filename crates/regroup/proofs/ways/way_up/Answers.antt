use Rattle.std.proofs.Common.{◌≡◌, ◌+◌, ◌-◌, ◌++◌, sym, ap, ◌∙◌, List, Some, arith, option_map}
use Rattle.regroup.proofs.Prelude.{ServerNo, parent_at, way_in}
use Rattle.regroup.proofs.Climbing.{way-comes, way-goes}
use Rattle.regroup.proofs.ways.way_up.Goals as goal

pub climb-preserved : goal.climb-preserved
climb-preserved c =
    let left : c.climb.steps ≡ (c.climb.steps - 1) + 1 = omega (arith, c.climb-test.true) in
    let parent : parent_at c.args.book.now c.climb.at ≡ Some c.in-Some-parent_at.above = sym c.parent_at.ensures ∙ c.in-Some-parent_at.is in
    ap (λ (l : List ServerNo). option_map (λ rest. l ++ rest) (way_in (parent_at c.args.book.now) c.args.to (c.climb.steps - 1) c.in-Some-parent_at.above)) c.in_ok-push.ensures.items
    ∙ way-goes (parent_at c.args.book.now) c.args.to c.climb.steps (c.climb.steps - 1) c.climb.at c.in-Some-parent_at.above c.climb.passed.items left parent c.if-above-to.false
    ∙ c.climb.invariant

pub returns-then-above-to : goal.returns-then-above-to
returns-then-above-to c =
    let left : c.climb.steps ≡ (c.climb.steps - 1) + 1 = omega (arith, c.climb-test.true) in
    let parent : parent_at c.args.book.now c.climb.at ≡ Some c.in-Some-parent_at.above = sym c.parent_at.ensures ∙ c.in-Some-parent_at.is in
    sym (way-comes (parent_at c.args.book.now) c.args.to c.climb.steps (c.climb.steps - 1) c.climb.at c.in-Some-parent_at.above c.climb.passed.items left parent c.if-above-to.true)
    ∙ c.climb.invariant
