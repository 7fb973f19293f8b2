use Rattle.run_laws.proofs.Counting.{apart-comes, counts-comes, next-goes-on}
use Rattle.run_laws.proofs.JobEntries.{jobs-comes}
use Rattle.run_laws.proofs.logging.every_audit_is_apart.Goals as goal

pub returns : goal.returns
returns c = record {
  apart = apart-comes;
  next = next-goes-on;
  counted = counts-comes;
  jobs = jobs-comes;
}
