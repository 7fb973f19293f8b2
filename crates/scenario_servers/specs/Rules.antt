-- Rules of promotion in a text.
use Rattle.std.specs.Prelude.{Result}
use Rattle.scenario_servers.specs.Prelude.{BadNumber, Data, Fault, Rule, or_fails, rule_at, text_in}
use Rattle.server_words.specs.OrchBase.Gives.{◌>>=◌}

unfoldable pub rule_in : Data → Result Rule Fault
rule_in d = do
  text ← text_in d
  or_fails BadNumber (rule_at text)
