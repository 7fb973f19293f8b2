use Rattle.std.proofs.Common.{map, ap, ◌∙◌}
use Rattle.book_views.proofs.Prelude.{source_node, source_nodes, take_all}
use Rattle.book_views.proofs.forest.source_nodes.Goals as goal

pub returns : goal.returns
unfolding source_nodes
returns c =
    c.loop-no.invariant
    ∙ ap (map (source_node c.args.book.now)) (take_all c.loop-no.no-index c.order-order.result.now c.loop-no-test.false ∙ c.order-order.ensures.order)
