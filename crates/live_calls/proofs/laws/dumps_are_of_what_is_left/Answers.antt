use Rattle.live_calls.proofs.Dumps.{dumps-left}
use Rattle.live_calls.proofs.laws.dumps_are_of_what_is_left.Goals as goal

pub returns : goal.returns
returns c = dumps-left
