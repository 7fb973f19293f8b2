use Rattle.audit_log.proofs.Changing.{index-empty}
use Rattle.audit_log.proofs.index.Index.enter_all.Goals as goal

pub loop-i-init : goal.loop-i-init
loop-i-init c = index-empty c.args.self.now c.requires
