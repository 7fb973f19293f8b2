use Rattle.std.proofs.Common.{◌∙◌, ap, sym, map}
use Rattle.scenario_values.proofs.Keys.{keys_pass, only_keys-pass}
use Rattle.scenario_values.proofs.key.only_keys.Goals as goal

pub loop-key-init : goal.loop-key-init
loop-key-init c =
    let known = map (λ s. s.now) c.args.known.now in
    only_keys-pass known c.args.members.now.entries ∙ ap (keys_pass known) (sym (c.into_iter-key-iterator.ensures.into_iter_gives ∙ c.keys-key-items.ensures.rest))
