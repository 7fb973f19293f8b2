use Rattle.move_laws.proofs.Latest.{found-latest, kept-latest, latest-found, none-found, nothing-found}
use Rattle.move_laws.proofs.last_kept.latest_bridges_are_found.Goals as goal

pub returns : goal.returns
returns c = record {
  found = latest-found;
  latest = found-latest;
  none = none-found;
  nothing = nothing-found;
  kept = kept-latest;
}
