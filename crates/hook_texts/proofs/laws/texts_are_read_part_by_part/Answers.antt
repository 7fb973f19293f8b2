use Rattle.std.proofs.Common.{arith}
use Rattle.hook_texts.proofs.Parts.{divided_close, divided_open}
use Rattle.hook_texts.proofs.laws.texts_are_read_part_by_part.Goals as goal

pub returns-clause-opened : goal.returns-clause-opened
returns-clause-opened c v front rest = divided_open v 0 front rest (omega arith)

pub returns-clause-closed : goal.returns-clause-closed
returns-clause-closed c v front rest = divided_close v 0 front rest (omega arith)
