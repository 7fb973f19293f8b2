use Rattle.std.proofs.Common.{◌≡◌, take}
use Rattle.recovery_core.proofs.Prelude.{HasRoom, IsReady, attempt_of, from_start, scanned_over}
use Rattle.recovery_core.proofs.scanning.scan.Given as goal

abbrev pub invariant-loop-entry : goal.invariant-loop-entry
invariant-loop-entry g l = record {
  stage : l.stage ≡ scanned_over l.world l.book (attempt_of l.by_master l.by_intermediate (g.P.Periods.period_of l.periods) l.book l.terms) l.terms.wait (from_start l.book l.audit.audit l.last) (take l.entry-index l.entry-items);
  ready : IsReady l.book l.stage;
  room : HasRoom l.stage.begun;
}
