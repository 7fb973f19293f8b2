use Rattle.std.proofs.Common.{◌≡◌, ◌∙◌, true, sym, ap, subst, take, filter}
use Rattle.recovery_core.proofs.Prelude.{are_known, is_replica_of, source_servers, take_all}
use Rattle.recovery_core.proofs.Grouping.{AreGrouped, more-grouped, none-grouped}
use Rattle.recovery_core.proofs.groups.groups.Goals as goal

pub loop-no-init : goal.loop-no-init
loop-no-init c =
    subst (AreGrouped c.args.book.now c.order-order.result.now 0) (sym c.in_ok-groups.ensures) (none-grouped c.args.book.now c.order-order.result.now c.servers.result c.servers.ensures.count)

pub loop-no-preserved : goal.loop-no-preserved
loop-no-preserved c =
    more-grouped c.args.book.now c.order-order.result.now c.loop-no.no-index _ c.seen_source.result c.loop-no.groups.items c.join.new.groups.items
    c.loop-no-test.true c.seen_source.ensures.source c.in_ok-join.ensures c.loop-no.invariant

pub returns : goal.returns
returns c =
    let order = c.order-order.result.now in
    let all : take c.loop-no.no-index order ≡ order = take_all c.loop-no.no-index order c.loop-no-test.false in
    record {
      count = c.loop-no.invariant.count;
      groups = λ n within. c.loop-no.invariant.members n within ∙ ap (filter (is_replica_of c.args.book.now n)) (all ∙ c.order-order.ensures.order);
    }

pub join-requires : goal.join-requires
join-requires c =
    subst (λ n. are_known n (source_servers c.seen_source.result) ≡ true) (sym c.loop-no.invariant.count) c.seen_source.ensures.known
