use Rattle.std.proofs.Common.{arith}
use Rattle.scenario_servers.proofs.Prelude.{view}
use Rattle.scenario_servers.proofs.ServerSteps.{purged-ok}
use Rattle.scenario_servers.proofs.server.purged_at.Goals as goal

pub overflow_cast-result : goal.overflow_cast-result
overflow_cast-result c = omega (arith, (purged-ok (view c.args.object.now) c.in_ok-first.first c.in_ok-first.ensures).1)
