use Rattle.replication_laws.proofs.Prelude.{Befall, Request, Rotate}
use Rattle.replication_laws.proofs.Runs.{Idle-after, Safe-asked, Safe-befallen, Safe-rotated}
use Rattle.replication_laws.proofs.each_change_keeps_safe.Goals as goal

pub returns : goal.returns
returns c = record {
  ask = Safe-asked;
  befall = Safe-befallen;
  rotate = Safe-rotated;
  ask_goes_on = λ w n a. (Idle-after w (Request n a) tt).grows;
  befall_goes_on = λ w n e. (Idle-after w (Befall n e) tt).grows;
  rotate_goes_on = λ w n. (Idle-after w (Rotate n) tt).grows;
  ask_errant = λ w n a. (Idle-after w (Request n a) tt).errant;
  befall_errant = λ w n e. (Idle-after w (Befall n e) tt).errant;
  rotate_errant = λ w n. (Idle-after w (Rotate n) tt).errant;
}
