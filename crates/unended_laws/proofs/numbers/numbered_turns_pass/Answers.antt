use Rattle.std.proofs.Common.{refl}
use Rattle.unended_laws.proofs.Prelude.Jobs.{job_at}
use Rattle.unended_laws.proofs.Turning.{number-held, number-may, number-sound, number-well}
use Rattle.unended_laws.proofs.numbers.numbered_turns_pass.Goals as goal

pub returns : goal.returns
returns c = record {
  may = λ f us b id read now keeps rings held. number-may f us b id read now keeps rings held (job_at us id) refl;
  held = λ f us b id read now keeps rings held. number-held f us b id read now keeps rings held (job_at us id) refl;
  well = λ f us b id read now keeps rings held sound. number-well f us b id read now keeps rings held (job_at us id) refl sound;
  sound = λ f us b id read now keeps rings held sound quiet. number-sound f us b id read now keeps rings held (job_at us id) refl sound quiet;
}
