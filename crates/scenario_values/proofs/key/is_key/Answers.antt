use Rattle.std.proofs.Common.{◌∙◌}
use Rattle.scenario_values.proofs.Keys.{any_now}
use Rattle.scenario_values.proofs.key.is_key.Goals as goal

pub returns : goal.returns
returns c = c.contains.ensures.value ∙ any_now c.args.known.now c.args.key.now
