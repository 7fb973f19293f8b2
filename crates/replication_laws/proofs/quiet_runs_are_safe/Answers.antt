use Rattle.replication_laws.proofs.Runs.{Safe-after, Safe-run, errant-take, quiet-take, Safe-take}
use Rattle.replication_laws.proofs.quiet_runs_are_safe.Goals as goal

pub returns : goal.returns
returns c = record {
  each = Safe-after;
  end = Safe-run;
  errant = errant-take;
  earlier_quiet = quiet-take;
  earlier_safe = Safe-take;
}
