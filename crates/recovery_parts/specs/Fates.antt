use Rattle.std.specs.Prelude.{[], ◌∷◌}
use Rattle.recovery_plans.specs.Operations.declared.op.Crossing.TheVariants as cross
use Rattle.recovery_plans.specs.Operations.declared.op.Op.TheVariants as op
use Rattle.recovery_plans.specs.declared.stage.Stage.TheVariants as stage
use Rattle.recovery_plans.specs.Taking as fate
use Rattle.recovery_parts.specs.declared.fates.Fate.{Fate}
use Rattle.recovery_parts.specs.declared.fates.Fate.TheVariants as code
use Rattle.recovery_parts.specs.declared.fates.Loss.{Loss}
use Rattle.recovery_parts.specs.declared.fates.Loss.TheVariants as loss

-- the fate that the code's means
abbrev pub fate_told : Fate → fate.Fate
fate_told code.Fails = fate.Fails
fate_told code.Drops = fate.Drops
fate_told (code.Loses n why) = fate.Loses n why
fate_told (code.Frees n why) = fate.Frees n why
fate_told (code.Releases q) = fate.Goes (stage.Release q) (op.Start q ∷ [])
fate_told (code.Returns p q) = fate.Goes (stage.Return p q) (op.Cross cross.Back q p ∷ op.Start q ∷ [])

-- and the loss
abbrev pub loss_told : Loss → fate.Loss
loss_told loss.Spent = fate.Spent
loss_told loss.Differs = fate.Differs
loss_told (loss.Missed m) = fate.Missed m
