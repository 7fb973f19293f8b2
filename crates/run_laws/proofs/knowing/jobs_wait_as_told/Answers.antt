use Rattle.run_laws.proofs.Hands.{plans-return}
use Rattle.run_laws.proofs.LinesHold.{plans-hold}
use Rattle.run_laws.proofs.Waits.{begun-may-wait, jobs-may-wait}
use Rattle.run_laws.proofs.knowing.jobs_wait_as_told.Goals as goal

pub returns : goal.returns
returns c = record {
  begun = begun-may-wait;
  always = jobs-may-wait;
  returns = plans-return;
  holds = plans-hold;
}
