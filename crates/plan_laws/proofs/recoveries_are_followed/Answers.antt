use Rattle.plan_laws.proofs.Handing.{recoveries-follow}
use Rattle.plan_laws.proofs.recoveries_are_followed.Goals as goal

pub returns : goal.returns
returns c = recoveries-follow
