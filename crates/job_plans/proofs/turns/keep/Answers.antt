use Rattle.std.proofs.Common.{◌≡◌, List, [], ◌∷◌, ◌++◌, rules, ap, ◌∙◌}
use Rattle.job_plans.proofs.Prelude.{Sight, filter_same, others}
use Rattle.job_plans.proofs.turns.keep.Goals as goal

pub returns-clause-items : goal.returns-clause-items
returns-clause-items c =
    let kept : c.retain.new.self.items ≡ others c.args.seen.now.items c.args.sight.no = filter_same _ _ _ (λ x b f' k. search rules) _ _ c.retain.ensures.filtered in
    c.push_reserved.ensures.items ∙ ap (λ (xs : List Sight). xs ++ c.args.sight ∷ []) kept
