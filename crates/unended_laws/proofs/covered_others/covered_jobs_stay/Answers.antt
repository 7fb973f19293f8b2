use Rattle.unended_laws.proofs.CoveredBeside.{apart-stays, outside-stays}
use Rattle.unended_laws.proofs.covered_others.covered_jobs_stay.Goals as goal

pub returns-clause-covered : goal.returns-clause-covered
returns-clause-covered c = outside-stays

pub returns-clause-kept : goal.returns-clause-kept
returns-clause-kept c = apart-stays
