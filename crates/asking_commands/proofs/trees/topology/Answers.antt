use Rattle.std.proofs.Common.{◌≡◌, ◌++◌, ℕ, true, false, Vec, Global, List, Option, length, ap, sym, ◌∙◌, append-nil, arith, filter, filter_map, slice_get}
use Rattle.std.specs.List.{flat_map, range_with_len}
use Rattle.std.proofs.lemmas.Option.{slice_get-get_or}
use Rattle.instance_keeper.specs.OrchBase.declared.server.ServerNo.{ServerNo}
use Rattle.commands.specs.declared.line.Line.{Line}
use Rattle.topology_tree.specs.Forests.{walk_of}
use Rattle.book_views.specs.Forests.{book_forest}
use Rattle.asking_commands.specs.Trees.{cluster_trees, is_root_of, node_line, topology_of, tree_lines}
use Rattle.asking_commands.proofs.Nodes.{trees-more}
use Rattle.book_views.proofs.Nodes.{length-forest}
use Rattle.asking_commands.proofs.trees.topology.Goals as goal
use Rattle.asking_commands.proofs.trees.topology.Goals.{then-is_root_of+in_ok-nodes+in_ok-push_nodes, else-is_root_of}

pub is_root_of-requires-clause-node : goal.is_root_of-requires-clause-node
is_root_of-requires-clause-node c =
    omega (arith, c.loop-node-test.true, c.order-order.ensures.count, ap length c.in_ok-forest.ensures.forest, length-forest c.args.book.now)

pub is_root_of-requires-clause-no : goal.is_root_of-requires-clause-no
is_root_of-requires-clause-no c =
    ap (λ (xs : List ServerNo). slice_get xs c.loop-node.node) (sym c.order-order.ensures.order)
    ∙ slice_get-get_or c.order-order.result.now c.loop-node.node (record { 0 = 0 }) c.loop-node-test.true

pub walk-requires : goal.walk-requires
walk-requires c =
    omega (arith, c.loop-node-test.true, c.order-order.ensures.count, ap length c.in_ok-forest.ensures.forest, length-forest c.args.book.now)

pub loop-node-preserved : goal.loop-node-preserved
loop-node-preserved c =
    let told : c.is_root_of.result ≡ is_root_of c.args.book.now (book_forest c.args.book.now) c.label_at-label.result.now c.loop-node.node =
    c.is_root_of.ensures ∙ ap (λ (f : List (Option ℕ)). is_root_of c.args.book.now f c.label_at-label.result.now c.loop-node.node) c.in_ok-forest.ensures.forest in
    elim c.if-is_root_of.branch [
      | then-is_root_of+in_ok-nodes+in_ok-push_nodes w ↦
          (ap (λ (v : Vec Line Global). v.items) w.lines-is
          ∙ w.in_ok-push_nodes.ensures
          ∙ ap (λ (xs : List Line). xs ++ filter_map (node_line c.args.book.now) w.deref.result.now) c.loop-node.invariant
          ∙ ap (λ (nodes : List (ℕ × ℕ)). flat_map (tree_lines c.args.book.now (book_forest c.args.book.now))
          (filter (is_root_of c.args.book.now (book_forest c.args.book.now) c.label_at-label.result.now) (range_with_len 0 c.loop-node.node))
          ++ filter_map (node_line c.args.book.now) nodes)
          (w.deref.ensures.value ∙ w.in_ok-nodes.ensures ∙ ap (λ (f : List (Option ℕ)). walk_of f c.loop-node.node) c.in_ok-forest.ensures.forest)
          ∙ sym (trees-more (tree_lines c.args.book.now (book_forest c.args.book.now))
          (is_root_of c.args.book.now (book_forest c.args.book.now) c.label_at-label.result.now) c.loop-node.node true (sym w.if-is_root_of.true ∙ told)))
      | else-is_root_of w ↦
          (ap (λ (v : Vec Line Global). v.items) w.lines-is
          ∙ c.loop-node.invariant
          ∙ sym (append-nil _)
          ∙ sym (trees-more (tree_lines c.args.book.now (book_forest c.args.book.now))
          (is_root_of c.args.book.now (book_forest c.args.book.now) c.label_at-label.result.now) c.loop-node.node false (sym w.if-is_root_of.false ∙ told)))
    ]

pub returns : goal.returns
unfolding topology_of
returns c =
    let all : c.loop-node.node ≡ length (book_forest c.args.book.now) =
    omega (arith, c.loop-node-test.false, c.loop-node.auto.node-end, c.order-order.ensures.count, length-forest c.args.book.now) in
    c.new.ensures
    ∙ c.loop-node.invariant
    ∙ ap (λ (n : ℕ). flat_map (tree_lines c.args.book.now (book_forest c.args.book.now))
    (filter (is_root_of c.args.book.now (book_forest c.args.book.now) c.label_at-label.result.now) (range_with_len 0 n))) all
    ∙ ap (cluster_trees c.args.book.now (book_forest c.args.book.now)) c.label_at-label.ensures
