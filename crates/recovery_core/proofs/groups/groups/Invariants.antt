use Rattle.recovery_core.proofs.Grouping.{AreGrouped}
use Rattle.recovery_core.proofs.groups.groups.Given as goal

abbrev pub invariant-loop-no : goal.invariant-loop-no
invariant-loop-no l = AreGrouped l.book l.order l.no-index l.groups.items
