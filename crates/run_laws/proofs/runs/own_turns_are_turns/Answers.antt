use Rattle.run_laws.proofs.RunLaws.{own_comes}
use Rattle.run_laws.proofs.runs.own_turns_are_turns.Goals as goal

pub returns : goal.returns
returns c = own_comes
