use Rattle.opening_checks.proofs.HeldLogs.{AreLogs-take}
use Rattle.opening_checks.proofs.source_logs.take_log.Goals as goal

pub returns-in-Some-clause-logs : goal.returns-in-Some-clause-logs
returns-in-Some-clause-logs c = AreLogs-take c.args.servers.now c.args.logs.now c.args.n.0 c.take.new.self c.requires.logs c.take.ensures.after
