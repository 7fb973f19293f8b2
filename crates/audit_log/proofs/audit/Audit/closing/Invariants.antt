use Rattle.std.proofs.Common.{◌≡◌, map, take, filter}
use Rattle.audit_log.proofs.Prelude.{interrupted, is_unended}
use Rattle.audit_log.proofs.audit.Audit.closing.Given as goal

abbrev pub invariant-loop-recovery : goal.invariant-loop-recovery
invariant-loop-recovery l = l.list.items ≡ map (interrupted l.at) (filter is_unended (take l.recovery-index l.self.audit.recoveries))
