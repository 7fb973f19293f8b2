use Rattle.run_laws.proofs.RunLaws.{quiet_before}
use Rattle.run_laws.proofs.runs.quiet_runs_were_quiet.Goals as goal

pub returns : goal.returns
returns c = quiet_before
