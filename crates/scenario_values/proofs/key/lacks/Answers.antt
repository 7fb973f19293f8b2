use Rattle.std.proofs.Common.{rules, ◌≡◌, ◌∙◌, sym, map}
use Rattle.scenario_values.proofs.Prelude.{as_object, has_none_at, view}
use Rattle.scenario_values.proofs.Keys.{has_none-absent}
use Rattle.scenario_values.proofs.key.lacks.Goals as goal

pub returns-in-Some-clause-absent : goal.returns-in-Some-clause-absent
returns-in-Some-clause-absent c = λ none.
    let keys = map (λ s. s.now) c.args.keys.now in
    let exact : c.has_none.result ≡ has_none_at keys (as_object (view c.args.object.now)) = search rules in
    has_none-absent keys (view c.args.object.now) (sym exact ∙ none)
