use Rattle.std.proofs.Common.{◌∙◌, arith}
use Rattle.row_texts.proofs.Ids.{id_from_parse}
use Rattle.row_texts.proofs.word.id_printed.Goals as goal

pub returns : goal.returns
returns c = c.ok.ensures.value ∙ id_from_parse c.args.text.now c.parse.result (grind arith) c.parse.ensures.value.0
