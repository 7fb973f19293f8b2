use Rattle.std.proofs.Common.{◌≡◌, take}
use Rattle.plan_parts.specs.Parts.{matchings}
use Rattle.plan_parts.proofs.lists.matchings.Given as goal

abbrev pub invariant-loop-r : goal.invariant-loop-r
invariant-loop-r l = l.ops.items ≡ matchings (take l.r-index l.replicas) l.d l.every
