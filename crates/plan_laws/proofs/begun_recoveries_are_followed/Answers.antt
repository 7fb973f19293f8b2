use Rattle.plan_laws.proofs.Tied.{recoveries-are-done, recoveries-are-of}
use Rattle.plan_laws.proofs.begun_recoveries_are_followed.Goals as goal

pub returns-clause-instance : goal.returns-clause-instance
returns-clause-instance c = recoveries-are-of

pub returns-clause-done : goal.returns-clause-done
returns-clause-done c = recoveries-are-done
