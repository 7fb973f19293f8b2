use Rattle.kept_rows.proofs.Recoveries.{kept-back, read-back}
use Rattle.kept_rows.proofs.laws.recoveries_are_kept.Goals as goal

pub returns : goal.returns
returns c = record {
  read = read-back;
  kept = kept-back;
}
