use Rattle.plan_laws.proofs.Telling.{moves-told, recoveries-told, takeovers-told}
use Rattle.plan_laws.proofs.plans_tell_begun_jobs.Goals as goal

pub returns : goal.returns
returns c = record {
  moves = moves-told;
  recoveries = recoveries-told;
  takeovers = takeovers-told;
}
