use Rattle.std.proofs.lemmas.Str.Pattern.{strip_suffix_char}
use Rattle.commands.proofs.Numbers.{before_strips}
use Rattle.commands.proofs.value.before.Goals as goal

pub returns : goal.returns
returns c = before_strips c.args.letter c.args.text.now c.strip_suffix.result (strip_suffix_char c.args.letter c.args.text.now c.strip_suffix.result c.strip_suffix.ensures.cases c.requires)
