use Rattle.replication_laws.proofs.Runs.{Placed-after, Grows-after, Placed-run, Grows-run, Placed-take}
use Rattle.replication_laws.proofs.placed.each_exchange_keeps_placed.Goals as goal

pub returns : goal.returns
returns c = record {
  placed = Placed-after;
  goes_on = Grows-after;
  run_placed = Placed-run;
  run_goes_on = Grows-run;
  earlier = Placed-take;
}
