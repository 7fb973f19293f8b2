use Rattle.audit_log.proofs.Parting.{closed-ends}
use Rattle.audit_log.proofs.laws.restarts_end_recoveries.Goals as goal

pub returns : goal.returns
returns c = closed-ends
