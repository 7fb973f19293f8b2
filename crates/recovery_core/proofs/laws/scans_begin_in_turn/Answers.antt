use Rattle.recovery_core.proofs.InTurn.{scan-audit, scan-blocks, scan-in-turn, scan-last, scan-leases, scan-moments}
use Rattle.recovery_core.proofs.laws.scans_begin_in_turn.Goals as goal

pub returns : goal.returns
returns c = record {
  begun = λ w b audit by wait last. scan-in-turn w b by wait audit last;
  leases = λ w b audit by wait last. scan-leases w b by wait audit last;
  audit = λ w b audit by wait last. scan-audit w b by wait audit last;
  last = λ w b audit by wait last. scan-last w b by wait audit last;
  moments = λ w b audit by wait last now. scan-moments w b by wait audit last now;
  blocks = λ w b audit by wait last period. scan-blocks w b by wait audit last period;
}
