use Rattle.run_laws.proofs.Marks.{found-end, matches-end}
use Rattle.run_laws.proofs.RunLaws.{Goes-comes, Holds-comes}
use Rattle.run_laws.proofs.flights.every_quiet_state_is_sound.Goals as goal

pub returns : goal.returns
returns c = record {
  sound = λ s xs now comes. (Goes-comes s xs now comes).sound;
  matched = λ s xs now comes quiet. matches-end now.world ((Holds-comes s xs now comes).safe quiet);
  found = λ s xs now comes quiet.
      found-end now.world ((Holds-comes s xs now comes).safe quiet) now.jobs ((Goes-comes s xs now comes).sound quiet).flight.met;
}
