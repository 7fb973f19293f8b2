use Rattle.std.proofs.Common.{◌≡◌, take}
use Rattle.recovery_core.proofs.stage.leases_of.Given as goal

abbrev pub invariant-loop-number : goal.invariant-loop-number
invariant-loop-number l = l.leases.items ≡ take l.number l.book.leases
