use Rattle.recovery_runs.proofs.Covering.{aimed-step, covered-step, kept-step, speaking-step}
use Rattle.recovery_runs.proofs.Tended.{tended-step}
use Rattle.recovery_runs.proofs.steps.turns_cover.Goals as goal

pub returns : goal.returns
returns c = record {
  covered = λ count s t ready held is covered rows. covered-step count rows s t ready held is covered;
  kept = λ count s t ready held sound is covered kept rows. kept-step count rows s t ready held sound is covered kept;
  speaking = λ count s t ready held is speaking rows. speaking-step count rows s t ready held is speaking;
  tended = λ count s t ready held is tended rows. tended-step count rows s t ready is tended;
  aimed = aimed-step;
}
