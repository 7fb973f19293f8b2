use Rattle.std.proofs.Common.{◌≡◌, ◌∷◌, ◌++◌, length, reverse, Some, arith, sym, ap, ◌∙◌}
use Rattle.topology_tree.proofs.Prelude.{above, last_below}
use Rattle.topology_tree.proofs.Children.{end_of, children_below, IsLast-at, falling-step, end-falls, IsLast-from, all_children, last-read, earlier-read, one_more_item}
use Rattle.topology_tree.proofs.forest.Forest.children.Goals as goal

pub loop-next-init : goal.loop-next-init
loop-next-init c =
    let e : c.index-next.result.now ≡ last_below c.self.inside.parents.items c.args.node (length c.self.inside.parents.items) =
    last-read c.self.inside.parents.items c.self.inside.last_child.items c.self.inside.earlier.items c.args.node c.index-next.result.now c.self.invariant.linked
    (omega (arith, c.requires, ap length c.self.view_is)) c.index-next.ensures
    in
    record {
      last = IsLast-from c.self.inside.parents.items c.args.node (length c.self.inside.parents.items) c.index-next.result.now e;
      so_far = rw c.new-children.ensures.items (all_children c.self.inside.parents.items c.args.node c.index-next.result.now e);
    }

pub loop-next-smaller : goal.loop-next-smaller
loop-next-smaller c =
    let child : above c.self.inside.parents.items c.in-Some.child ≡ Some c.args.node =
    IsLast-at c.self.inside.parents.items c.args.node c.in-Some.child c.loop-next.next c.in-Some.is c.loop-next.invariant.last
    in
    let e : c.index-next-in-Some.result.now ≡ last_below c.self.inside.parents.items c.args.node c.in-Some.child =
    earlier-read c.self.inside.parents.items c.self.inside.last_child.items c.self.inside.earlier.items c.args.node c.in-Some.child c.index-next-in-Some.result.now c.self.invariant.linked
    child c.index-next-in-Some.ensures
    in
    omega (arith, end-falls c.self.inside.parents.items c.args.node c.in-Some.child c.index-next-in-Some.result.now e, ap end_of c.in-Some.is)

pub loop-next-preserved : goal.loop-next-preserved
loop-next-preserved c =
    let child : above c.self.inside.parents.items c.in-Some.child ≡ Some c.args.node =
    IsLast-at c.self.inside.parents.items c.args.node c.in-Some.child c.loop-next.next c.in-Some.is c.loop-next.invariant.last
    in
    let e : c.index-next-in-Some.result.now ≡ last_below c.self.inside.parents.items c.args.node c.in-Some.child =
    earlier-read c.self.inside.parents.items c.self.inside.last_child.items c.self.inside.earlier.items c.args.node c.in-Some.child c.index-next-in-Some.result.now c.self.invariant.linked
    child c.index-next-in-Some.ensures
    in
    let more : reverse (children_below c.self.inside.parents.items c.args.node (end_of c.loop-next.next)) ≡ c.in-Some.child ∷ reverse (children_below c.self.inside.parents.items c.args.node (end_of c.index-next-in-Some.result.now)) =
    ap (λ o. reverse (children_below c.self.inside.parents.items c.args.node (end_of o))) c.in-Some.is
    ∙ falling-step c.self.inside.parents.items c.args.node c.in-Some.child c.index-next-in-Some.result.now child e
    in
    record {
      last = IsLast-from c.self.inside.parents.items c.args.node c.in-Some.child c.index-next-in-Some.result.now e;
      so_far = rw c.in_ok-push.ensures.items
          (one_more_item c.loop-next.children.items c.in-Some.child (reverse (children_below c.self.inside.parents.items c.args.node (end_of c.index-next-in-Some.result.now)))
          ∙ ap (λ xs. c.loop-next.children.items ++ xs) (sym more) ∙ c.loop-next.invariant.so_far);
    }
