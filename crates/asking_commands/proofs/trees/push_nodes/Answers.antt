use Rattle.std.proofs.Common.{◌++◌, ℕ, List, Option, take, ap, ◌∙◌, filter_map}
use Rattle.std.specs.Option.{option_to_list}
use Rattle.commands.specs.declared.line.Line.{Line}
use Rattle.asking_commands.specs.Trees.{node_line}
use Rattle.asking_commands.proofs.Nodes.{nodes-more}
use Rattle.asking_commands.proofs.trees.push_nodes.Goals as goal

pub loop-node-preserved : goal.loop-node-preserved
loop-node-preserved c =
    let before = c.args.lines.now.items in
    let d : ℕ × ℕ = (0, 0) in
    c.in_ok-push_some.ensures
    ∙ ap (λ (xs : List Line). xs ++ option_to_list c.node_line.result) c.loop-node.invariant
    ∙ ap (λ (o : Option Line). (before ++ filter_map (node_line c.args.book.now) (take c.loop-node.node-index c.args.nodes.now)) ++ option_to_list o) c.node_line.ensures
    ∙ nodes-more (node_line c.args.book.now) before c.args.nodes.now c.loop-node.node-index d c.loop-node-test.true
