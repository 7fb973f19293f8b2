use Rattle.audit_log.proofs.Loaded.{kept-audit}
use Rattle.audit_log.proofs.laws.kept_recoveries_make_an_audit.Goals as goal

pub returns : goal.returns
returns c = kept-audit
