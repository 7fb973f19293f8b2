-- The operations that are left of a stage.
use Rattle.std.specs.Prelude.{◌≡◌, Bool, true, not, List, [], ◌++◌}
use Rattle.std.specs.List.{list_all}
use Rattle.recovery_plans.specs.Operations.declared.op.Op.{Op}
use Rattle.recovery_plans.specs.Operations.Deeds.{deed_of}
use Rattle.recovery_plans.specs.declared.stage.Stage.{Stage}
use Rattle.recovery_plans.specs.Table.{info}
use Rattle.recovery_plans.specs.Stages.{ends, tail_of}

abbrev pub are_still : Stage → List Op → Bool
are_still s ops = list_all (λ op. not (ends s (deed_of op))) ops

-- a stage in which nothing is left but its change
abbrev pub is_due : Stage → Bool
is_due s = (info s).due

-- the operations that are left of a stage: some that don't end it, and the one that ends it after them
pub record Fits (s : Stage) (ops : List Op) : Type 0 where
  pub front : List Op
  pub still : are_still s front ≡ true
  pub is : ops ≡ front ++ tail_of s
  pub due : is_due s ≡ true → front ≡ []
