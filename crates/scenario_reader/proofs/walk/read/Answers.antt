use Rattle.std.proofs.Common.{ℕ, List, Result, Ok, Err, IfOk}
use Rattle.scenario_reader.proofs.Prelude.{Gives, IsScenario, ReadFault, Scenario, fault_of, scenario_in}
use Rattle.scenario_reader.proofs.Sound.{scenario_in_sound}
use Rattle.scenario_reader.proofs.walk.read.Goals as goal

sound : (r : Result Scenario ReadFault) (bytes : List ℕ) → Gives (λ s. s) fault_of r (scenario_in bytes) → IfOk r IsScenario
sound (Ok s) bytes h = scenario_in_sound bytes s h
sound (Err e) bytes h = tt

pub returns-clause-sound : goal.returns-clause-sound
returns-clause-sound c = sound c.scenario_in.result c.args.bytes.now c.scenario_in.ensures
