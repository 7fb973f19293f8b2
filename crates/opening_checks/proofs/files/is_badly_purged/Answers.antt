use Rattle.std.proofs.Common.{sym, arith}
use Rattle.opening_checks.proofs.Prelude.{slice_get_within}
use Rattle.opening_checks.proofs.HeldLogs.{AreLogs-put}
use Rattle.opening_checks.proofs.Purgings.{bad_purged-first}
use Rattle.opening_checks.proofs.files.is_badly_purged.Goals as goal

pub returns-then-init-le1-clause-met : goal.returns-then-init-le1-clause-met
returns-then-init-le1-clause-met c = sym (bad_purged-first c.args.servers.now c.args.n.0 c.args.init.now c.if-init-le1.true)

pub bounds-logs-n : goal.bounds-logs-n
bounds-logs-n c =
    let within = slice_get_within c.args.servers.now c.args.n.0 c.args.init.now c.requires.at in
    omega (arith, c.in_ok-log.ensures.logs.count)

pub returns-clause-logs : goal.returns-clause-logs
returns-clause-logs c = AreLogs-put c.args.servers.now c.take_log.new.logs c.args.n.0 c.in_ok-log.log c.in_ok-log.ensures.logs c.in_ok-log.ensures.log
