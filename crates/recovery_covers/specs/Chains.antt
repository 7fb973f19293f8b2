-- Whom the followers of a recovery that is done follow.
use Rattle.std.specs.Prelude.{◌≡◌, Some, All, ◌⊎◌}
use Rattle.recovery_covers.specs.Prelude.{Recovery}
use Rattle.recovery_covers.specs.SoFar.{FollowsBy}
use Rattle.recovery_covers.specs.Covers.{HasSwapped}

-- Each follows the promoted server. After a swap, if another took the chosen one's place, each follows the chosen one,
-- which follows the promoted one.
abbrev pub IsChain : Recovery → Type 0
IsChain r =
    All (λ x. r.outcome.promoted ≡ Some x.source) r.outcome.followers
    ⊎ (HasSwapped r × All (FollowsBy r.chosen r.outcome.promoted) r.outcome.followers)
