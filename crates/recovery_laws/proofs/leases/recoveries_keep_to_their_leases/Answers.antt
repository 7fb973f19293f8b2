use Rattle.recovery_laws.proofs.Leasing.{taken-leased, job-leased}
use Rattle.recovery_laws.proofs.leases.recoveries_keep_to_their_leases.Goals as goal

pub returns-clause-taken : goal.returns-clause-taken
returns-clause-taken c = taken-leased

pub returns-clause-job : goal.returns-clause-job
returns-clause-job c = job-leased
