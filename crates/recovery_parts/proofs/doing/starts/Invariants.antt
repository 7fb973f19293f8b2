use Rattle.std.proofs.Common.{◌≡◌, map, take}
use Rattle.recovery_plans.specs.Operations.Turns.{restarts}
use Rattle.recovery_parts.specs.Doings.{exchange_of}
use Rattle.recovery_parts.proofs.doing.starts.Given as goal

abbrev pub invariant-loop-no : goal.invariant-loop-no
invariant-loop-no l = map exchange_of l.changes.items ≡ restarts (take l.no-index l.hands)
