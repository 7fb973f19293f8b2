use Rattle.recovery_reasons.proofs.Answering.{turn-answered}
use Rattle.recovery_reasons.proofs.Asking.{turn-asks}
use Rattle.recovery_reasons.proofs.Attaching.{turn-attaches}
use Rattle.recovery_reasons.proofs.Changing.{turn-its}
use Rattle.recovery_reasons.proofs.Undoing.{fails-opening, fails-starting, turn-hands}
use Rattle.recovery_reasons.proofs.Waiting.{turn-waits}
use Rattle.recovery_reasons.proofs.Whole.{turn-begins}
use Rattle.recovery_reasons.proofs.turning.recoveries_turn_well.Goals as goal

pub returns : goal.returns
returns c = record {
  attaches = λ w b read now r P rings held speaks why x going. turn-attaches w b read now r P rings held speaks why x.sent going;
  changes = λ w b read now r speaks. turn-its w b read now r speaks.changes;
  answered = λ w b read now r n y o rings held speaks at due. turn-answered w b read now r rings held speaks n y o at due;
  waits = λ w b read now r speaks. turn-waits w b read now r speaks;
  asks = λ w b read now r rings held speaks going. turn-asks w b read now r rings held speaks going;
  begins = λ w b read now r rings held speaks going. turn-begins w b now r read rings held speaks going;
  hands = λ w b read now r going. turn-hands w b read now r going;
  starts = λ w b read now r k lines failed. fails-starting w b read now r k lines failed;
  opens = λ w b read now r k lines failed. fails-opening w b read now r k lines failed;
}
