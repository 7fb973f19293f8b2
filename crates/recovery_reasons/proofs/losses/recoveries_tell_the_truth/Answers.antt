use Rattle.recovery_reasons.proofs.Facts.{begun-explained, done-crowned, taken-explained}
use Rattle.recovery_reasons.proofs.Fatal.{fatal-ends}
use Rattle.recovery_reasons.proofs.Nobody.{finds-nobody}
use Rattle.recovery_reasons.proofs.OnWay.{done-fit}
use Rattle.recovery_reasons.proofs.Speaking.{taken-speaks, begun-speaks}
use Rattle.recovery_reasons.proofs.losses.recoveries_tell_the_truth.Goals as goal

pub returns : goal.returns
returns c = record {
  told = taken-explained;
  speaks = taken-speaks;
  begun = begun-speaks;
  untold = begun-explained;
  nobody = λ w b now r speaks none. finds-nobody w b now r speaks.way speaks.knows none;
  fit = λ w b read now r speaks lines done. done-fit w b read now r speaks.way lines done;
  crowned = done-crowned;
  fatal = fatal-ends;
}
