use Rattle.std.proofs.Common.{◌≡◌, map}
use Rattle.std.specs.Prelude.{is_ok}
use Rattle.scenario_values.proofs.Prelude.{members_view, only_keys}
use Rattle.scenario_values.proofs.Keys.{keys_pass}
use Rattle.scenario_values.proofs.key.has_only.Given as goal

abbrev pub invariant-loop-key : goal.invariant-loop-key
invariant-loop-key l =
    is_ok (only_keys (map (λ s. s.now) l.keys) (members_view l.members.entries)) ≡ is_ok (keys_pass (map (λ s. s.now) l.keys) l.key-iterator)
