use Rattle.tasks.proofs.Words.{asked_is}
use Rattle.tasks.proofs.laws.asked_turns_are_sound.Goals as goal

pub returns : goal.returns
returns c = asked_is
