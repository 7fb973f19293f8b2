use Rattle.std.proofs.Common.{◌≡◌, take}
use Rattle.plan_parts.specs.Parts.{following}
use Rattle.plan_parts.proofs.ends.following.Given as goal

abbrev pub invariant-loop-no : goal.invariant-loop-no
invariant-loop-no l = l.lines.items ≡ following (take l.no-index l.replicas) l.source
