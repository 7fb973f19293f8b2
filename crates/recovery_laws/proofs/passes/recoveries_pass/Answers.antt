use Rattle.recovery_laws.proofs.Passing.{recovery-passes, recovery-passes-well}
use Rattle.recovery_laws.proofs.passes.recoveries_pass.Goals as goal

pub returns-clause-may : goal.returns-clause-may
returns-clause-may c = λ f b id read now r held rings mine leased. recovery-passes f b id read now r held rings mine leased

pub returns-clause-well : goal.returns-clause-well
returns-clause-well c = λ f b id read now r held rings mine sound standing good. recovery-passes-well f b id read now r held rings mine sound standing good
