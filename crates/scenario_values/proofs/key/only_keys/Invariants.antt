use Rattle.std.proofs.Common.{◌≡◌, map}
use Rattle.scenario_values.proofs.Prelude.{members_view, only_keys}
use Rattle.scenario_values.proofs.Keys.{keys_pass}
use Rattle.scenario_values.proofs.key.only_keys.Given as goal

abbrev pub invariant-loop-key : goal.invariant-loop-key
invariant-loop-key l =
    only_keys (map (λ s. s.now) l.known) (members_view l.members.entries) ≡ keys_pass (map (λ s. s.now) l.known) l.key-iterator
