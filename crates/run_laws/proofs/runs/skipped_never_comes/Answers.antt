use Rattle.run_laws.proofs.RunLaws.{not_skipped}
use Rattle.run_laws.proofs.runs.skipped_never_comes.Goals as goal

pub returns : goal.returns
returns c = λ s xs now comes q n to. not_skipped s xs now n to comes q
