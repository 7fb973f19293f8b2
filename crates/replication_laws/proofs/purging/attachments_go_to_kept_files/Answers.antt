use Rattle.replication_laws.proofs.Refusals.{attach-answers, attach-kept, attach-purged, attach-unchanged, auto-answers, auto-kept, auto-placed, auto-refused, auto-unchanged}
use Rattle.replication_laws.proofs.purging.attachments_go_to_kept_files.Goals as goal

pub returns : goal.returns
returns c = record {
  kept = λ w n expect to at s there h. attach-kept w n expect to.0 at s there h;
  purged = λ w n expect to at s first there h. attach-purged w n expect to.0 at s first there h;
  refuses = λ w n expect to at s placed ready apart there less. attach-answers w n expect to.0 at s placed ready apart there less;
  unchanged = attach-unchanged;
  auto_kept = auto-kept;
  auto_placed = auto-placed;
  auto_purged = auto-refused;
  auto_refuses = λ w n observed to r s k placed ready apart at there none starts less. auto-answers w n observed to.0 r s k placed ready apart at there none starts less;
  auto_unchanged = auto-unchanged;
}
