use Rattle.std.proofs.Common.{refl}
use Rattle.move_laws.proofs.PlansOfMatch.{plan-up}
use Rattle.move_laws.proofs.planned_match.permitted_matches_have_plans.Goals as goal

pub returns : goal.returns
returns c = record {
  one = λ b every i d. refl;
  each = λ b every i d. refl;
  up = plan-up;
}
