-- What holds for an unended job beside `Held` and `Sound`.
use Rattle.std.specs.Prelude.{ℕ}
use Rattle.unended_laws.specs.Prelude.{CoversSoFar, KeptByChosen, SameAim, Speaks, Unended, World}
use Rattle.unended_jobs.specs.RecoveryPlans.Recoveries.{Recovery}
use Rattle.unended_laws.specs.Prelude.unended

-- a recovery covers its replicas so far
abbrev pub IsCoveredBeside : World → Unended → Type 0
IsCoveredBeside w (unended.Plan j) = Unit {0}
IsCoveredBeside w (unended.Recovery r docket) = CoversSoFar w r

-- and its chosen server has what each that might have been chosen had when it was drained
abbrev pub IsKeptBeside : World → Unended → Type 0
IsKeptBeside w (unended.Plan j) = Unit {0}
IsKeptBeside w (unended.Recovery r docket) = KeptByChosen w r

-- and its operations speak with the replica of which they make an entry
abbrev pub IsSpeakingBeside : Unended → Type 0
IsSpeakingBeside (unended.Plan j) = Unit {0}
IsSpeakingBeside (unended.Recovery r docket) = Speaks r

-- and it is about what the recovery of its number began with
abbrev pub IsAimedBeside : (ℕ → Recovery) → Unended → Type 0
IsAimedBeside begun (unended.Plan j) = Unit {0}
IsAimedBeside begun (unended.Recovery r docket) = SameAim (begun r.core.id) r
