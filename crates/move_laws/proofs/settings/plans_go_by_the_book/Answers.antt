use Rattle.move_laws.proofs.ByBook.{coords-plans-same, lists-same, path-plans-same}
use Rattle.move_laws.proofs.settings.plans_go_by_the_book.Goals as goal

pub returns : goal.returns
returns c = record {
  coords = λ w v b given same. coords-plans-same w v same b given;
  lists = λ w v b given same. lists-same w v same b given;
  paths = λ w v b given same. path-plans-same w v same b given;
}
