use Rattle.std.proofs.Common.{rules}
use Rattle.job_plans.proofs.Prelude.{filter_same}
use Rattle.job_plans.proofs.turns.let_go.Goals as goal

pub returns-clause-items : goal.returns-clause-items
returns-clause-items c = filter_same _ _ _ (λ x b f' k. search rules) _ _ c.retain.ensures.filtered
