use Rattle.commands.proofs.Needed.{needed-used}
use Rattle.commands.proofs.laws.needed_keys_are_used.Goals as goal

pub returns : goal.returns
returns c = needed-used
