use Rattle.move_laws.proofs.Apart.{path-apart, way-apart}
use Rattle.move_laws.proofs.ways.ways_do_not_come_back.Goals as goal

pub returns-clause-way : goal.returns-clause-way
returns-clause-way c = way-apart

pub returns-clause-path : goal.returns-clause-path
returns-clause-path c = path-apart
