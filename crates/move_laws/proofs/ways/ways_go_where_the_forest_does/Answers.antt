use Rattle.move_laws.proofs.Going.{path-goes, way-goes}
use Rattle.move_laws.proofs.ways.ways_go_where_the_forest_does.Goals as goal

pub returns-clause-way : goal.returns-clause-way
returns-clause-way c = way-goes

pub returns-clause-path : goal.returns-clause-path
returns-clause-path c = path-goes
