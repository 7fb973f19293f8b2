use Rattle.unended_laws.proofs.Turning.{turn-held, turn-may, turn-sound, turn-well}
use Rattle.unended_laws.proofs.taking.unended_jobs_take_turns.Goals as goal

pub returns : goal.returns
returns c = record {
  may = λ f us b id read now keeps u at rings held. turn-may f us b id read now keeps rings held u at;
  held = λ f us b id read now keeps u at rings held. turn-held f us b id read now keeps rings held u at;
  well = λ f us b id read now keeps u at rings held sound. turn-well f us b id read now keeps rings held u at sound;
  sound = λ f us b id read now keeps u at rings held sound quiet. turn-sound f us b id read now keeps rings held u at sound quiet;
}
