use Rattle.unended_laws.proofs.Prelude.{Restarting, passed}
use Rattle.unended_laws.proofs.CoveredBeside.{none-covered, none-kept, none-speak}
use Rattle.unended_laws.proofs.covered_others.restarts_leave_none_covered.Goals as goal

pub returns : goal.returns
returns c = record {
  covered = λ f. none-covered (passed f Restarting);
  kept = λ f. none-kept (passed f Restarting);
  speaking = none-speak;
}
