use Rattle.std.proofs.lemmas.Str.Pattern.{split_once_first}
use Rattle.hook_texts.proofs.Reading.{parted_told}
use Rattle.hook_texts.proofs.expanding.parted.Goals as goal

pub returns : goal.returns
returns c =
    parted_told c.args.byte c.args.text.now c.split_once.result (split_once_first c.args.byte c.args.text.now c.split_once.result c.split_once.ensures.cases c.requires)
