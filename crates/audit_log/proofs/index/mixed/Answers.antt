use Rattle.std.proofs.Common.{refl}
use Rattle.audit_log.proofs.Prelude.{mixed}
use Rattle.audit_log.proofs.index.mixed.Goals as goal

pub returns-clause-value : goal.returns-clause-value
unfolding mixed
returns-clause-value c = refl
