use Rattle.unended_laws.proofs.CoveredBeside.{begin-covered, begin-kept, begin-speaking}
use Rattle.unended_laws.proofs.covered_begins.covered_jobs_begin.Goals as goal

pub returns : goal.returns
returns c = record {
  covered = begin-covered;
  kept = begin-kept;
  speaking = begin-speaking;
}
