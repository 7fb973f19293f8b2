use Rattle.unended_laws.proofs.Checking.{tended-still}
use Rattle.unended_laws.proofs.hooks.hooks_before_recoveries_leave_servers.Goals as goal

pub returns : goal.returns
returns c = tended-still
