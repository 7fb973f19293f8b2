use Rattle.std.proofs.Common.{◌≡◌}
use Rattle.audit_log.proofs.Prelude.{interrupted}
use Rattle.audit_log.proofs.Changes.{mapped}
use Rattle.audit_log.proofs.audit.interrupt_all.Given as goal

abbrev pub invariant-loop-recovery : goal.invariant-loop-recovery
invariant-loop-recovery l = l.recoveries ≡ mapped (interrupted l.at) l.recovery-index l.initial.recoveries
