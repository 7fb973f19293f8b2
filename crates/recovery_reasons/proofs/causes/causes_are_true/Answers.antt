use Rattle.recovery_reasons.proofs.Causing.{cause-true, match-cause}
use Rattle.recovery_reasons.proofs.causes.causes_are_true.Goals as goal

pub returns-clause-alone : goal.returns-clause-alone
returns-clause-alone c = cause-true

pub returns-clause-matches : goal.returns-clause-matches
returns-clause-matches c = match-cause
