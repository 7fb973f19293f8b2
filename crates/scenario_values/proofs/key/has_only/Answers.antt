use Rattle.std.proofs.Common.{◌∙◌, ap, sym, map}
use Rattle.std.specs.Prelude.{is_ok}
use Rattle.scenario_values.proofs.Keys.{keys_pass, only_keys-pass}
use Rattle.scenario_values.proofs.key.has_only.Goals as goal

pub loop-key-init : goal.loop-key-init
loop-key-init c =
    let keys = map (λ s. s.now) c.args.keys.now in
    ap is_ok (only_keys-pass keys c.args.members.now.entries ∙ ap (keys_pass keys) (sym (c.into_iter-key-iterator.ensures.into_iter_gives ∙ c.keys-key-items.ensures.rest)))
