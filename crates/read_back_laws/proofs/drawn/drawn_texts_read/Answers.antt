use Rattle.read_back_laws.proofs.DrawnWholes.{text_opens}
use Rattle.read_back_laws.proofs.drawn.drawn_texts_read.Goals as goal

pub returns : goal.returns
returns c = text_opens
