use Rattle.read_back_laws.proofs.Turns.{turns_read}
use Rattle.read_back_laws.proofs.drawn.drawn_turns_read.Goals as goal

pub returns : goal.returns
returns c = turns_read
