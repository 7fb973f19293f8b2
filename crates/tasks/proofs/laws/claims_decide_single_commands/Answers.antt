use Rattle.tasks.proofs.Claimed.{claimed-taken, taken-takes-none}
use Rattle.tasks.proofs.laws.claims_decide_single_commands.Goals as goal

pub returns-clause-held : goal.returns-clause-held
returns-clause-held c = claimed-taken

pub returns-clause-taken : goal.returns-clause-taken
returns-clause-taken c = taken-takes-none
