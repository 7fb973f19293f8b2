use Rattle.std.proofs.Common.{sym, arith}
use Rattle.audit_log.proofs.Linking.{clear-known}
use Rattle.audit_log.proofs.Walking.{some-of}
use Rattle.audit_log.proofs.index.Index.is_last.Goals as goal

pub returns-in-Some : goal.returns-in-Some
returns-in-Some c known =
    let xs = c.args.recoveries.now in
    let x = some-of xs (omega (arith, c.requires.within)) in
    clear-known xs c.args.self.now c.requires.index c.args.cluster.now c.args.now.0 c.args.i c.in-Some.from x (sym c.in-Some.ensures) (c.requires.of x) c.if-from-now.true
