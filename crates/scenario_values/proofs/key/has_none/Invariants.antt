use Rattle.std.proofs.Common.{◌≡◌, map}
use Rattle.scenario_values.proofs.Prelude.{has_none, members_view}
use Rattle.scenario_values.proofs.Keys.{are_none}
use Rattle.scenario_values.proofs.key.has_none.Given as goal

abbrev pub invariant-loop-key : goal.invariant-loop-key
invariant-loop-key l =
    has_none (map (λ s. s.now) l.keys) (members_view l.members.entries) ≡ are_none (map (λ s. s.now) l.keys) l.key-iterator
