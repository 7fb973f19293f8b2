use Rattle.tidy_laws.proofs.Prelude.{dump_text, dumped_scenario, scenario_in_sound}
use Rattle.tidy_laws.proofs.Reading.{read-written}
use Rattle.tidy_laws.proofs.Saying.{says-what-was-dumped}
use Rattle.tidy_laws.proofs.Worlds.{world-comes}
use Rattle.tidy_laws.proofs.dumps_of_runs_read_back.Goals as goal

pub returns : goal.returns
unfolding dumped_scenario
returns c = λ s xs now comes bytes read quiet within.
    let w = now.world in
    let is_world = world-comes s xs now comes (read-written bytes s read) quiet in
    let checked = c.dumped_worlds_lack_flaws.ensures.checked s w now.moment comes.scenario is_world within in
    let reads = c.dumps_read.ensures bytes s w now.moment read is_world within checked in
    record {
      reads = reads;
      runs = scenario_in_sound (dump_text w s now.moment) (dumped_scenario w s now.moment) reads;
      opens = λ room flushes. c.dumped_worlds_open.ensures s w room flushes is_world;
      says = says-what-was-dumped w s now.moment reads;
    }
