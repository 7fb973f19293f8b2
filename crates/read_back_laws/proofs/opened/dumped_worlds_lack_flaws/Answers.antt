use Rattle.read_back_laws.proofs.Checked.{checked-given}
use Rattle.read_back_laws.proofs.Flaws.{flawless-given}
use Rattle.read_back_laws.proofs.opened.dumped_worlds_lack_flaws.Goals as goal

pub returns-clause-flaws : goal.returns-clause-flaws
returns-clause-flaws c = λ s w of. flawless-given w of.safe of.tidy

pub returns-clause-checked : goal.returns-clause-checked
returns-clause-checked c = checked-given
