use Rattle.std.proofs.Common.{arith}
use Rattle.openings.proofs.Laid.{Flushes-more, Flushes-end}
use Rattle.openings.proofs.logs.flush_at.Goals as goal

pub loop-at-preserved : goal.loop-at-preserved
loop-at-preserved c =
    let inv = c.loop-at.invariant in
    rw c.rotate.ensures record {
      done = Flushes-more c.args.flushes.now c.args.next c.args.count c.loop-at.at c.args.log.now.log c.loop-at.log.log c.loop-at-test.true c.if-flushes-at.true inv.done;
      txns = inv.txns;
      flushes = omega (arith, inv.flushes, inv.done.within, c.requires.left, c.loop-at-test.true);
      room = inv.room;
    }

pub returns-else-flushes-at-clause-log : goal.returns-else-flushes-at-clause-log
returns-else-flushes-at-clause-log c =
    (Flushes-end c.args.flushes.now c.args.next c.args.count c.loop-at.at c.args.log.now.log c.loop-at.log.log (λ _. c.if-flushes-at.false) c.loop-at.invariant.done).0
