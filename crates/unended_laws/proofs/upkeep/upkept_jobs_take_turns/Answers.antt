use Rattle.std.proofs.Common.{refl}
use Rattle.unended_jobs.specs.Jobs.{job_at}
use Rattle.unended_laws.proofs.UpTurns.{done-ups, number-up, turn-finds, turn-shuts, turn-stands}
use Rattle.unended_laws.proofs.upkeep.upkept_jobs_take_turns.Goals as goal

pub returns : goal.returns
returns c = record {
  turned = λ P mine f us b id read now keeps rings held covered speaking explains. number-up P mine f us b id read now rings held covered speaking explains keeps (job_at us id) refl;
  done = λ P mine f us t lines held covered speaking explains up same. done-ups P mine f us t held covered speaking explains up same lines;
  closes = λ P mine f us t held covered speaking explains up same. turn-shuts P mine f us t held covered speaking explains up same;
  finds = λ P mine f us t d held covered speaking explains up same so. turn-finds P mine f us t held covered speaking explains up same d so;
  stands = λ P mine f us t d held covered speaking explains up same so. turn-stands P mine f us t held covered speaking explains up same d so;
}
