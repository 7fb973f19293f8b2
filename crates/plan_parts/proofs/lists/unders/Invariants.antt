use Rattle.std.proofs.Common.{◌≡◌, take}
use Rattle.plan_parts.specs.Parts.{unders}
use Rattle.plan_parts.proofs.lists.unders.Given as goal

abbrev pub invariant-loop-r : goal.invariant-loop-r
invariant-loop-r l = l.ops.items ≡ unders (take l.r-index l.siblings) l.d l.s
