use Rattle.move_laws.proofs.ByBook.{coords-same, gtids-same, matches-same, paths-same, recovery-same, takeover-same}
use Rattle.move_laws.proofs.settings.permits_go_by_the_book.Goals as goal

pub returns : goal.returns
returns c = record {
  coords = λ w v b given same. coords-same w v same b given;
  gtids = λ w v b given same. gtids-same w v same b given;
  paths = λ w v b now given same. paths-same w v same b now given;
  matches = λ w v b now every given same. matches-same w v same b now every given;
  recovery = λ w v b audit a f same. recovery-same w v same b audit a f;
  takeover = λ w v b audit a i d same. takeover-same w v same b audit a i d;
}
