use Rattle.run_laws.proofs.StartStates.{Held-start, Sound-start}
use Rattle.run_laws.proofs.steps.openings_are_flights.Goals as goal

pub returns-clause-held : goal.returns-clause-held
returns-clause-held c = Held-start

pub returns-clause-sound : goal.returns-clause-sound
returns-clause-sound c = Sound-start
