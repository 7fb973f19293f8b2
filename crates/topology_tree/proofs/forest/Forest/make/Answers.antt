use Rattle.std.proofs.Common.{arith, subst}
use Rattle.topology_tree.proofs.Prelude.{IsLinked}
use Rattle.topology_tree.proofs.Walking.{IsForest-made, IsLinked-items}
use Rattle.topology_tree.proofs.forest.Forest.make.Goals as goal

pub invariant_of-result : goal.invariant_of-result
invariant_of-result c =
    let linked : IsLinked c.in_ok-parents.parents.items c.link.new.last_child c.link.new.earlier =
    subst (λ xs. IsLinked xs c.link.new.last_child c.link.new.earlier) c.deref-2.ensures.value c.link.ensures
    in
    record {
      forest = IsForest-made c.args.sources.now c.in_ok-parents.parents.items c.requires.few c.requires.closed c.in_ok-parents.ensures c.in_ok-looped.ensures.settles;
      linked = IsLinked-items c.in_ok-parents.parents.items c.in_ok-last_child.last_child c.in_ok-earlier.earlier c.link.new.last_child c.link.new.earlier
          (omega (arith, c.link.ensures.last_len, c.deref-2.ensures.len, c.in_ok-last_child.ensures.len, c.len.ensures))
          (omega (arith, c.link.ensures.earlier_len, c.deref-2.ensures.len, c.in_ok-earlier.ensures.len, c.len-2.ensures)) linked;
    }
