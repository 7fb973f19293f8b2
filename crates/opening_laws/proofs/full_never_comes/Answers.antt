use Rattle.opening_laws.proofs.Prelude.{not_full-files}
use Rattle.opening_laws.proofs.Rooms.{not_full-opened, HasFiles-opened, not_full-rotations}
use Rattle.opening_laws.proofs.full_never_comes.Goals as goal

pub returns : goal.returns
returns c = record {
  histories = not_full-opened;
  files = λ w es k n has h. not_full-files es k n w has h;
  opened = HasFiles-opened;
  rotations = not_full-rotations;
}
