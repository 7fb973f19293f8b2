use Rattle.recovery_covers.proofs.Keeping.{begun-kept, taken-kept, kept-run, promoted-keeps, old-begins}
use Rattle.recovery_covers.proofs.kept.recoveries_keep_histories.Goals as goal

pub returns : goal.returns
returns c = record {
  begun = begun-kept;
  taken = taken-kept;
  others = kept-run;
  promoted = promoted-keeps;
  old = old-begins;
}
