use Rattle.replication_laws.proofs.ShownCoords.{Shows-after, Shows-run, Shows-seen, Shows-shown}
use Rattle.replication_laws.proofs.showing.shown_coordinates_have_places.Goals as goal

pub returns : goal.returns
returns c = record {
  seen = Shows-seen;
  unreached = Shows-shown;
  stays = Shows-after;
  run_stays = Shows-run;
}
