use Rattle.move_laws.proofs.EachOnce.{each-once}
use Rattle.move_laws.proofs.listed.clusters_are_listed_once.Goals as goal

pub returns : goal.returns
returns c b = each-once b
