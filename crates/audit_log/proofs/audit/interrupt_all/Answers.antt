use Rattle.std.proofs.Common.{◌∙◌}
use Rattle.audit_log.proofs.Prelude.{interrupted}
use Rattle.audit_log.proofs.Changes.{mapped_all, mapped_step}
use Rattle.audit_log.proofs.audit.interrupt_all.Goals as goal

pub loop-recovery-preserved : goal.loop-recovery-preserved
loop-recovery-preserved c =
    mapped_step (interrupted c.args.at) c.args.recoveries.now c.loop-recovery.recoveries c.loop-recovery.recovery-index c.interrupt.new.recovery _
    c.loop-recovery.invariant c.loop-recovery-test.true c.interrupt.ensures

pub returns : goal.returns
returns c = c.loop-recovery.invariant ∙ mapped_all (interrupted c.args.at) c.loop-recovery.recovery-index c.args.recoveries.now c.loop-recovery-test.false
