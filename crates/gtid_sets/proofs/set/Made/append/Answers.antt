use Rattle.std.proofs.Common.{arith, sym, ◌∙◌}
use Rattle.gtid_sets.proofs.Prelude.{low, nat_tests}
use Rattle.gtid_sets.proofs.Joins.{joined_set, apart_set, joined_order}
use Rattle.gtid_sets.proofs.set.Made.append.Goals as goal

pub invariant_of-self-then-reaches : goal.invariant_of-self-then-reaches
invariant_of-self-then-reaches c =
    joined_set c.self.inside.intervals.items c.pop.new.self.items _ c.in-Some.last c.joined.result c.self.invariant c.in-Some.ensures.items
    c.joined.ensures.is c.joined.ensures.low c.in_ok-push-in-Some.ensures.items

pub invariant_of-self-in-Continue-branch-4 : goal.invariant_of-self-in-Continue-branch-4
invariant_of-self-in-Continue-branch-4 c =
    apart_set c.self.inside.intervals.items c.pop.new.self.items c.push-in-Some-2.new.self.items _ c.in-Some.last c.args.next c.self.invariant c.in-Some.ensures.items
    c.requires.next (grind (arith, nat_tests, c.if-reaches.false, c.if-reaches.ensures)) c.in_ok-push-in-Some-2.ensures.items c.in_ok-push-in-Some-2-2.ensures.items

pub returns-in_ok-push-in-Some-clause-order : goal.returns-in_ok-push-in-Some-clause-order
returns-in_ok-push-in-Some-clause-order c = λ bound le.
    joined_order c.args.self.now c.pop.new.self.items _ c.in-Some.last c.joined.result (low c.args.next) bound (sym c.self.view_is ∙ c.in-Some.ensures.items) c.requires.order
    c.joined.ensures.low c.in_ok-push-in-Some.ensures.items le
