use Rattle.job_laws.proofs.Stopped.{purged-only, purged-stops}
use Rattle.job_laws.proofs.crossings.purged_files_stop_jobs.Goals as goal

pub returns-clause-stops : goal.returns-clause-stops
returns-clause-stops c = purged-stops

pub returns-clause-only : goal.returns-clause-only
returns-clause-only c = purged-only
