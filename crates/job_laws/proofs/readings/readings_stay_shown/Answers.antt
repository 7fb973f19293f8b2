use Rattle.job_laws.proofs.Prelude.{Shows-run}
use Rattle.job_laws.proofs.Showing.{Bridged-run, ShowsAt-run, Spans-run}
use Rattle.job_laws.proofs.readings.readings_stay_shown.Goals as goal

pub returns : goal.returns
returns c = record {
  shown = Shows-run;
  position = ShowsAt-run;
  bridged = Bridged-run;
  spans = Spans-run;
}
