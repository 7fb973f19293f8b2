use Rattle.tidy_laws.proofs.Exchanged.{trim-after}
use Rattle.tidy_laws.proofs.Tidying.{tidied}
use Rattle.tidy_laws.proofs.exchanges_in_order_keep_trim.Goals as goal

pub returns-clause-keeps : goal.returns-clause-keeps
returns-clause-keeps c = λ cs w e trim allowed fine. trim-after cs w e trim allowed fine

pub returns-clause-tidy : goal.returns-clause-tidy
returns-clause-tidy c = λ cs w placed trim. tidied cs w placed trim
