use Rattle.move_laws.proofs.Numbered.{match-last-rows-rise, match-rows-rise}
use Rattle.move_laws.proofs.lowest.match_numbers_rise.Goals as goal

pub returns-clause-row : goal.returns-clause-row
returns-clause-row c = match-rows-rise

pub returns-clause-last : goal.returns-clause-last
returns-clause-last c = match-last-rows-rise
