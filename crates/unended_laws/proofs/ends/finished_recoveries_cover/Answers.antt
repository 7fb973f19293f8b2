use Rattle.unended_laws.proofs.Ending.{done-chain, done-named, done-placed, done-told, turn-aim, turn-changes, turn-chooses, turn-spares}
use Rattle.unended_laws.proofs.ends.finished_recoveries_cover.Goals as goal

pub returns : goal.returns
returns c = record {
  aim = turn-aim;
  told = λ f us t lines done held covered. done-told f us t held covered lines done;
  chain = λ f us t lines done held covered. done-chain f us t held covered lines done;
  placed = λ f us t lines done held covered. done-placed f us t held covered lines done;
  named = λ f us t lines count done held covered named. done-named f us t held covered lines done count named;
  chooses = λ f us t d held covered so. turn-chooses f us t held covered d so;
  changes = λ f us t held covered going. turn-changes f us t held covered going;
  spares = λ f us t held covered speaking going. turn-spares f us t held covered speaking going;
}
