use Rattle.std.proofs.Common.{refl}
use Rattle.unended_jobs.specs.Jobs.{job_at}
use Rattle.unended_laws.proofs.CoveredBeside.{begin-aimed, none-aimed}
use Rattle.unended_laws.proofs.CoveredTurning.{number-aimed}
use Rattle.unended_laws.proofs.Ending.{last-aim}
use Rattle.unended_laws.proofs.aims.aims_stay_in_flight.Goals as goal

pub returns : goal.returns
returns c = record {
  begun = begin-aimed;
  none = none-aimed;
  turned = λ begun f us b id read now rings held. number-aimed f us b id read now rings held begun (job_at us id) refl;
  last = λ begun f us t held aimed. last-aim f us t held begun aimed;
}
