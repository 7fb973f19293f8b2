-- The bridge by which a stage's replica goes is that of the stage that follows.
use Rattle.std.proofs.Common.{◌≡◌, refl}
use Rattle.recovery_plans.proofs.Prelude.{Stage, info, moved}
use Rattle.recovery_plans.proofs.Prelude.stage

pub moved-leads : (s : Stage) → (info (moved s)).lead ≡ (info s).lead
moved-leads (stage.Look n b) = refl
moved-leads (stage.Looked n b) = refl
moved-leads (stage.Trail n b) = refl
moved-leads (stage.Halted n b) = refl
moved-leads (stage.Move n by) = refl
moved-leads s = refl
