use Rattle.std.proofs.Common.{◌∙◌, ap, sym, map}
use Rattle.scenario_values.proofs.Keys.{are_none, has_none-are}
use Rattle.scenario_values.proofs.key.has_none.Goals as goal

pub loop-key-init : goal.loop-key-init
loop-key-init c =
    let keys = map (λ s. s.now) c.args.keys.now in
    has_none-are keys c.args.members.now.entries ∙ ap (are_none keys) (sym (c.into_iter-key-iterator.ensures.into_iter_gives ∙ c.keys-key-items.ensures.rest))
