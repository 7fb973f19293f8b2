use Rattle.topology_tree.proofs.TreeWalks.{walk-lists_tree}
use Rattle.topology_tree.proofs.laws.walks_list_their_tree.Goals as goal

pub returns : goal.returns
returns c = λ forest root is lt. walk-lists_tree forest is root lt
