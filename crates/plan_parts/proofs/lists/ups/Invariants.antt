use Rattle.std.proofs.Common.{◌≡◌, take}
use Rattle.plan_parts.specs.Parts.{ups}
use Rattle.plan_parts.proofs.lists.ups.Given as goal

abbrev pub invariant-loop-r : goal.invariant-loop-r
invariant-loop-r l = l.ops.items ≡ ups (take l.r-index l.replicas) l.i l.x
