use Rattle.move_laws.proofs.Parents.{own-path, path-beside, way-goes-up, way-next}
use Rattle.move_laws.proofs.ways.ways_climb.Goals as goal

pub returns : goal.returns
returns c = record {
  next = way-next;
  own = own-path;
  beside = path-beside;
  levels = way-goes-up;
}
