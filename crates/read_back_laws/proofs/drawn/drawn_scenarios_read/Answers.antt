use Rattle.read_back_laws.proofs.Scenarios.{bound_holds, scenario_reads, scenario_runs}
use Rattle.read_back_laws.proofs.drawn.drawn_scenarios_read.Goals as goal

pub returns : goal.returns
returns c = record {
  whole = scenario_reads;
  runs = scenario_runs;
  bound = bound_holds;
}
