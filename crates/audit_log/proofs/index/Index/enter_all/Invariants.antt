use Rattle.std.proofs.Common.{take}
use Rattle.audit_log.proofs.Prelude.{IsIndex}
use Rattle.audit_log.proofs.index.Index.enter_all.Given as goal

abbrev pub invariant-loop-i : goal.invariant-loop-i
invariant-loop-i l = IsIndex (take l.i l.recoveries) l.self
