use Rattle.std.proofs.Common.{◌∙◌, rules, sym}
use Rattle.scenario_values.proofs.Texts.{version_part-parse, version_part-other}
use Rattle.scenario_values.proofs.value.version_part.Goals as goal

pub returns-then-are_digits : goal.returns-then-are_digits
returns-then-are_digits c = c.ok.ensures.value ∙ version_part-parse c.args.digits.now c.parse.result (search rules) c.parse.ensures.value.0

pub returns-else-are_digits : goal.returns-else-are_digits
returns-else-are_digits c = sym (version_part-other c.args.digits.now (search rules))
