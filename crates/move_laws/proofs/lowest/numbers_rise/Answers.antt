use Rattle.move_laws.proofs.Numbered.{rows-rise}
use Rattle.move_laws.proofs.lowest.numbers_rise.Goals as goal

pub returns : goal.returns
returns c = rows-rise
