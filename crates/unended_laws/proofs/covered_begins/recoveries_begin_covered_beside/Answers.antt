use Rattle.unended_laws.proofs.CoveredBeside.{recovery-covered, recovery-kept, recovery-speaks}
use Rattle.unended_laws.proofs.covered_begins.recoveries_begin_covered_beside.Goals as goal

pub returns : goal.returns
returns c = record {
  covered = recovery-covered;
  kept = recovery-kept;
  speaking = recovery-speaks;
}
