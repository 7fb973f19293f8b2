use Rattle.run_laws.proofs.Flown.{flown}
use Rattle.run_laws.proofs.Passing.{Held-step, Sound-step, may-pass, pass-well}
use Rattle.run_laws.proofs.steps.turns_are_flown.Goals as goal

pub returns : goal.returns
returns c = record {
  passages = λ count s t ready is rows. flown count rows s t ready is;
  may = may-pass;
  well = pass-well;
  held = λ count s t ready held is rows. Held-step count rows s t ready held is;
  sound = λ count s t ready held sound is rows quiet. Sound-step count rows s t ready held sound is quiet;
}
