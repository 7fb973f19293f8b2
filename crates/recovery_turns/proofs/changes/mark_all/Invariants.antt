use Rattle.std.proofs.Common.{◌≡◌}
use Rattle.recovery_turns.proofs.Prelude.{marked}
use Rattle.recovery_turns.proofs.Marked.{mapped}
use Rattle.recovery_turns.proofs.changes.mark_all.Given as goal

abbrev pub invariant-loop-replica : goal.invariant-loop-replica
invariant-loop-replica l = l.replica-items ≡ mapped (marked l.no) l.replica-index l.initial.replica-items
