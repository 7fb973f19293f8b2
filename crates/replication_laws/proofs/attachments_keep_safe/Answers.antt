use Rattle.replication_laws.proofs.Crossings.{joins-same}
use Rattle.replication_laws.proofs.Prelude.{Attach, AttachAuto}
use Rattle.replication_laws.proofs.Runs.{Idle-after, Safe-attached, Safe-auto}
use Rattle.replication_laws.proofs.attachments_keep_safe.Goals as goal

pub returns : goal.returns
returns c = record {
  safe = Safe-attached;
  same = joins-same;
  goes_on = λ w n expect to at. (Idle-after w (Attach n expect to at) tt).grows;
  errant = λ w n expect to at. (Idle-after w (Attach n expect to at) tt).errant;
  auto = Safe-auto;
  auto_goes_on = λ w n observed to. (Idle-after w (AttachAuto n observed to) tt).grows;
  auto_errant = λ w n observed to. (Idle-after w (AttachAuto n observed to) tt).errant;
}
