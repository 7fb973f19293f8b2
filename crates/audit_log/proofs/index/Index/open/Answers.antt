use Rattle.audit_log.proofs.Changing.{index-empty}
use Rattle.audit_log.proofs.index.Index.open.Goals as goal

pub returns-in_ok-self-clause-index : goal.returns-in_ok-self-clause-index
returns-in_ok-self-clause-index c = index-empty _ c.requires
