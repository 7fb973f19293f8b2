use Rattle.std.proofs.Common.{rules, tests, ◌∙◌}
use Rattle.std.proofs.lemmas.Iterator.{YieldsList-from_slice}
use Rattle.std.proofs.lemmas.Iterator.Search.{find_from_yields_List}
use Rattle.std.specs.Str.{bytes_eq}
use Rattle.commands.specs.Names.{name_of, word_of}
use Rattle.commands.specs.Table.{names}
use Rattle.commands.proofs.name.CommandName.read.Goals as goal

pub returns : goal.returns
unfolding name_of
returns c = c.copied.ensures ∙ find_from_yields_List (λ name. bytes_eq c.args.text.now (word_of name)) _ _ c.find.result c.find.ensures.ran (YieldsList-from_slice names cc) (λ x b q k. search (rules, tests))
