use Rattle.recovery_laws.proofs.Beside.{passage-held, passage-leased, passage-sound}
use Rattle.recovery_laws.proofs.staying.recoveries_stay_in_flight.Goals as goal

pub returns : goal.returns
returns c = record {
  held = passage-held;
  sound = passage-sound;
  leased = passage-leased;
}
