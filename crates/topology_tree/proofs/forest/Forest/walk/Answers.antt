use Rattle.std.proofs.Common.{◌≡◌, ◌<◌, ◌+◌, [], ◌∷◌, ◌++◌, length, map, reverse, arith, sym, subst, ap, ◌∙◌}
use Rattle.topology_tree.proofs.Prelude.{All, All-append, IsForest, children_of}
use Rattle.topology_tree.proofs.Children.{one_more_item}
use Rattle.topology_tree.proofs.Walking.{pending_walk, InPlace, InPlace-depth, InPlace-children, pending-next, All-waiting, All-top}
use Rattle.topology_tree.proofs.forest.Forest.walk.Goals as goal

pub overflow_add-depth : goal.overflow_add-depth
overflow_add-depth c =
    let is : IsForest c.args.self.now = subst IsForest c.self.view_is c.self.invariant.forest in
    let top : c.loop-node.pending.items ≡ c.pop.new.self.items ++ (c.in-Some.node, c.in-Some.depth) ∷ [] = c.in-Some.ensures.items in
    let places : All (InPlace c.args.self.now c.args.root) (c.pop.new.self.items ++ (c.in-Some.node, c.in-Some.depth) ∷ []) =
    subst (All (InPlace c.args.self.now c.args.root)) top c.loop-node.invariant.places
    in
    let low : c.in-Some.depth < length c.args.self.now =
    InPlace-depth c.args.self.now c.args.root c.in-Some.node c.in-Some.depth is (All-top (InPlace c.args.self.now c.args.root) c.pop.new.self.items (c.in-Some.node, c.in-Some.depth) places)
    in
    omega (arith, low, is.few)

pub loop-node-smaller : goal.loop-node-smaller
loop-node-smaller c =
    let is : IsForest c.args.self.now = subst IsForest c.self.view_is c.self.invariant.forest in
    let top : c.loop-node.pending.items ≡ c.pop.new.self.items ++ (c.in-Some.node, c.in-Some.depth) ∷ [] = c.in-Some.ensures.items in
    let places : All (InPlace c.args.self.now c.args.root) (c.pop.new.self.items ++ (c.in-Some.node, c.in-Some.depth) ∷ []) =
    subst (All (InPlace c.args.self.now c.args.root)) top c.loop-node.invariant.places
    in
    let low : c.in-Some.depth < length c.args.self.now =
    InPlace-depth c.args.self.now c.args.root c.in-Some.node c.in-Some.depth is (All-top (InPlace c.args.self.now c.args.root) c.pop.new.self.items (c.in-Some.node, c.in-Some.depth) places)
    in
    let next : pending_walk c.args.self.now c.loop-node.pending.items ≡ (c.in-Some.node, c.in-Some.depth) ∷ pending_walk c.args.self.now c.push_children.new.pending.items =
    ap (pending_walk c.args.self.now) top ∙ pending-next c.args.self.now c.pop.new.self.items c.in-Some.depth c.in-Some.node low
    ∙ ap (λ xs. (c.in-Some.node, c.in-Some.depth) ∷ pending_walk c.args.self.now xs) (sym c.in_ok-push_children.ensures)
    in
    omega (arith, ap length next)

pub loop-node-preserved : goal.loop-node-preserved
loop-node-preserved c =
    let is : IsForest c.args.self.now = subst IsForest c.self.view_is c.self.invariant.forest in
    let top : c.loop-node.pending.items ≡ c.pop.new.self.items ++ (c.in-Some.node, c.in-Some.depth) ∷ [] = c.in-Some.ensures.items in
    let places : All (InPlace c.args.self.now c.args.root) (c.pop.new.self.items ++ (c.in-Some.node, c.in-Some.depth) ∷ []) =
    subst (All (InPlace c.args.self.now c.args.root)) top c.loop-node.invariant.places
    in
    let place : InPlace c.args.self.now c.args.root (c.in-Some.node, c.in-Some.depth) =
    All-top (InPlace c.args.self.now c.args.root) c.pop.new.self.items (c.in-Some.node, c.in-Some.depth) places
    in
    let low : c.in-Some.depth < length c.args.self.now = InPlace-depth c.args.self.now c.args.root c.in-Some.node c.in-Some.depth is place in
    let next : pending_walk c.args.self.now c.loop-node.pending.items ≡ (c.in-Some.node, c.in-Some.depth) ∷ pending_walk c.args.self.now c.push_children.new.pending.items =
    ap (pending_walk c.args.self.now) top ∙ pending-next c.args.self.now c.pop.new.self.items c.in-Some.depth c.in-Some.node low
    ∙ ap (λ xs. (c.in-Some.node, c.in-Some.depth) ∷ pending_walk c.args.self.now xs) (sym c.in_ok-push_children.ensures)
    in
    record {
      so_far = rw c.in_ok-push-2.ensures.items
          (one_more_item c.loop-node.listed.items (c.in-Some.node, c.in-Some.depth) (pending_walk c.args.self.now c.push_children.new.pending.items)
          ∙ ap (λ xs. c.loop-node.listed.items ++ xs) (sym next) ∙ c.loop-node.invariant.so_far);
      places = subst (All (InPlace c.args.self.now c.args.root)) (sym c.in_ok-push_children.ensures)
          (All-append (InPlace c.args.self.now c.args.root) c.pop.new.self.items (map (λ n. (n, c.in-Some.depth + 1)) (reverse (children_of c.args.self.now c.in-Some.node)))
          (All-waiting (InPlace c.args.self.now c.args.root) c.pop.new.self.items ((c.in-Some.node, c.in-Some.depth) ∷ []) places)
          (InPlace-children c.args.self.now c.args.root c.in-Some.node c.in-Some.depth is place));
    }
