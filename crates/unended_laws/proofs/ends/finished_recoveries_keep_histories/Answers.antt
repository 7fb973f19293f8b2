use Rattle.unended_laws.proofs.Ending.{done-old, done-promoted}
use Rattle.unended_laws.proofs.ends.finished_recoveries_keep_histories.Goals as goal

pub returns-clause-promoted : goal.returns-clause-promoted
returns-clause-promoted c = λ f us t lines n done held sound covered kept safe is. done-promoted f us t held covered lines done n sound kept safe is

pub returns-clause-old : goal.returns-clause-old
returns-clause-old c = λ f us t lines d done held covered safe is. done-old f us t held covered lines done d safe is
