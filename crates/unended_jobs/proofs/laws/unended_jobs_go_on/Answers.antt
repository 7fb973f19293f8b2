use Rattle.unended_jobs.proofs.Going.{flown-allowed, flown-fewer, flown-number, flown-ready, flown-sees, flown-unended, recovery-promotes}
use Rattle.unended_jobs.proofs.laws.unended_jobs_go_on.Goals as goal

pub returns : goal.returns
returns c = record {
  allowed = flown-allowed;
  observes = flown-sees;
  number = flown-number;
  ready = flown-ready;
  unended = flown-unended;
  promoted = recovery-promotes;
  fewer = flown-fewer;
}
