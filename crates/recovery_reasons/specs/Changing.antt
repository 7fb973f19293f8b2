-- Which servers a recovery changes.
use Rattle.std.specs.Prelude.{◌≡◌, ◌⊎◌, ℕ, List}
use Rattle.recovery_reasons.specs.Prelude.{Contains, IsAny, IsOf, Purpose, Recovery, ServerNo}
use Rattle.recovery_reasons.specs.Prelude.purpose

-- a takeover changes its master, too, and the replica that is to take its place
abbrev pub IsInTakeover : Purpose → ServerNo → ℕ → Type 0
IsInTakeover purpose.Regroup f k = ⊥
IsInTakeover purpose.Master f k = ⊥
IsInTakeover (purpose.Intermediate s) f k = ⊥
IsInTakeover (purpose.Takeover d) f k = (k ≡ f.0) ⊎ (k ≡ d.0)

-- one of the replicas, or one of these
abbrev pub IsIts : Purpose → ServerNo → List ServerNo → ℕ → Type 0
IsIts u f ns k = ((n : ServerNo) × Contains ns n × (n.0 ≡ k)) ⊎ IsInTakeover u f k

-- whatever the recovery changes, now or later, is one of them
abbrev pub ChangesIts : Recovery → Type 0
ChangesIts r = IsOf (IsIts r.purpose r.failed r.replicas) IsAny r.core.id r
