use Rattle.tidy_laws.proofs.Reading.{read-written}
use Rattle.tidy_laws.proofs.read_scenarios_can_be_printed.Goals as goal

pub returns : goal.returns
returns c = λ bytes s e. read-written bytes s e
