use Rattle.recovery_runs.proofs.Prelude.{none-aimed, none-speak}
use Rattle.recovery_runs.proofs.Covering.{covered-start, kept-start}
use Rattle.recovery_runs.proofs.Tended.{tended-start}
use Rattle.recovery_runs.proofs.steps.openings_cover.Goals as goal

pub returns : goal.returns
returns c = record {
  covered = covered-start;
  kept = kept-start;
  speaking = λ s wait rows. none-speak;
  tended = tended-start;
  aimed = λ begun s wait rows. none-aimed begun;
}
