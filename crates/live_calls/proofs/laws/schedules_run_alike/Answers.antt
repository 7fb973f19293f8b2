use Rattle.live_calls.proofs.Alike.{alike}
use Rattle.live_calls.proofs.laws.schedules_run_alike.Goals as goal

pub returns : goal.returns
returns c = alike
