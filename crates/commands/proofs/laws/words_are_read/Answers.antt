use Rattle.commands.proofs.Words.{name_of-word_of, word_of-name_of}
use Rattle.commands.proofs.laws.words_are_read.Goals as goal

pub returns-clause-read : goal.returns-clause-read
returns-clause-read c = name_of-word_of

pub returns-clause-only : goal.returns-clause-only
returns-clause-only c = word_of-name_of
