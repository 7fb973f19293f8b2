use Rattle.recovery_laws.proofs.Begun.{begun-held, begun-sound}
use Rattle.recovery_laws.proofs.Leasing.{begun-leased}
use Rattle.recovery_laws.proofs.begins.recoveries_begin.Goals as goal

pub returns : goal.returns
returns c = record {
  held = begun-held;
  sound = begun-sound;
  leased = begun-leased;
}
