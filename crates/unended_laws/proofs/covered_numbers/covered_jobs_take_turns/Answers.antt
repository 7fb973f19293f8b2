use Rattle.std.proofs.Common.{refl}
use Rattle.unended_jobs.specs.Jobs.{job_at}
use Rattle.unended_laws.proofs.CoveredTurning.{number-covered, number-kept, number-speaking}
use Rattle.unended_laws.proofs.covered_numbers.covered_jobs_take_turns.Goals as goal

pub returns : goal.returns
returns c = record {
  covered = λ f us b id read now keeps rings held. number-covered f us b id read now rings held keeps (job_at us id) refl;
  kept = λ f us b id read now keeps rings held. number-kept f us b id read now rings held keeps (job_at us id) refl;
  speaking = λ f us b id read now rings held. number-speaking f us b id read now rings held (job_at us id) refl;
}
