use Rattle.move_laws.proofs.PlansOfPath.{paths-found, plan-auto, plan-autos, plan-path, plan-paths}
use Rattle.move_laws.proofs.planned_path.permitted_relocations_have_plans.Goals as goal

pub returns : goal.returns
returns c = record {
  path = plan-path;
  auto = plan-auto;
  found = paths-found;
  paths = plan-paths;
  autos = plan-autos;
}
