use Rattle.run_laws.proofs.Readings.{discoveries-read, jobs-store, openings-give-numbers, restarts-count-on, polls-read, polls-store, readings-never-sink}
use Rattle.run_laws.proofs.Staying.{instances-stay}
use Rattle.run_laws.proofs.knowing.readings_are_stored.Goals as goal

pub returns : goal.returns
returns c = record {
  polls = polls-read;
  stores = polls-store;
  discoveries = discoveries-read;
  jobs = jobs-store;
  never_sink = readings-never-sink;
  stay = instances-stay;
  openings = openings-give-numbers;
  restarts = restarts-count-on;
}
