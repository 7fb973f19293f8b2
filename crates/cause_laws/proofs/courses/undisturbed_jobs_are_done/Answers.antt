use Rattle.cause_laws.proofs.Turning.{finished-lines, undisturbed-done}
use Rattle.cause_laws.proofs.courses.undisturbed_jobs_are_done.Goals as goal

pub returns-clause-done : goal.returns-clause-done
returns-clause-done c = undisturbed-done

pub returns-clause-lines : goal.returns-clause-lines
returns-clause-lines c = finished-lines
