use Rattle.std.proofs.Common.{◌∙◌, rules, sym}
use Rattle.commands.proofs.Numbers.{number_at-parse, number_at-other}
use Rattle.commands.proofs.value.number_at.Goals as goal

pub returns-then-are_digits : goal.returns-then-are_digits
returns-then-are_digits c = c.ok.ensures.value ∙ number_at-parse c.args.digits.now c.parse.result (search rules) c.parse.ensures.value.0

pub returns-else-are_digits : goal.returns-else-are_digits
returns-else-are_digits c = sym (number_at-other c.args.digits.now (search rules))
