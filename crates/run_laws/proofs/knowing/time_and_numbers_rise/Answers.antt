use Rattle.run_laws.proofs.Moments.{jobs-rise, last-never-sinks, passes-time, past-comes}
use Rattle.run_laws.proofs.knowing.time_and_numbers_rise.Goals as goal

pub returns : goal.returns
returns c = record {
  time = passes-time;
  past = past-comes;
  jobs = jobs-rise;
  last = last-never-sinks;
}
