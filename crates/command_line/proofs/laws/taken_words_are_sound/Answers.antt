use Rattle.command_line.proofs.Named.{taken_have}
use Rattle.command_line.proofs.laws.taken_words_are_sound.Goals as goal

pub returns : goal.returns
returns c = taken_have
