use Rattle.std.proofs.Common.{◌≡◌, take}
use Rattle.plan_parts.specs.Parts.{autos}
use Rattle.plan_parts.proofs.lists.autos.Given as goal

abbrev pub invariant-loop-r : goal.invariant-loop-r
invariant-loop-r l = l.ops.items ≡ autos (take l.r-index l.replicas) l.d
