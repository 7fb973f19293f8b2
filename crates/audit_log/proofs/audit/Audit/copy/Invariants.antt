use Rattle.std.proofs.Common.{◌≡◌, take}
use Rattle.audit_log.proofs.audit.Audit.copy.Given as goal

abbrev pub invariant-loop-recovery : goal.invariant-loop-recovery
invariant-loop-recovery l = l.recoveries.items ≡ take l.recovery-index l.self.audit.recoveries
