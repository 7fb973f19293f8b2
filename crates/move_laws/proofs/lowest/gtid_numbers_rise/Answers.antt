use Rattle.move_laws.proofs.Numbered.{gtid-rows-rise}
use Rattle.move_laws.proofs.lowest.gtid_numbers_rise.Goals as goal

pub returns : goal.returns
returns c = gtid-rows-rise
