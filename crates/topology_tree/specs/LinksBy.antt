use Rattle.topology_tree.specs.Links.{IsForest, IsLinked}
use Rattle.topology_tree.specs.declared.forest.Forest.TheInside.{Inside}

-- what a forest's tables keep
pub record IsKept (a : Inside) : Type 0 where
  pub forest : IsForest a.parents.items
  pub linked : IsLinked a.parents.items a.last_child.items a.earlier.items
