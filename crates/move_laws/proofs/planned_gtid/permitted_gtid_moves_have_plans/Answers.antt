use Rattle.std.proofs.Common.{refl}
use Rattle.move_laws.proofs.PlansOfGtid.{plan-disabled, plan-enabled}
use Rattle.move_laws.proofs.planned_gtid.permitted_gtid_moves_have_plans.Goals as goal

pub returns : goal.returns
returns c = record {
  auto = λ b i d. refl;
  autos = λ b i d. refl;
  enabled = plan-enabled;
  disabled = plan-disabled;
}
