use Rattle.std.proofs.Common.{◌≡◌, take}
use Rattle.audit_log.proofs.Prelude.{recoveries_in}
use Rattle.audit_log.proofs.loading.recoveries_in.Given as goal

abbrev pub invariant-loop-row : goal.invariant-loop-row
invariant-loop-row g l = l.recoveries.items ≡ recoveries_in (g.P.Periods.period_of l.periods) (take l.row-index l.rows)
