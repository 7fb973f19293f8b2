use Rattle.std.proofs.Common.{◌≡◌, map, take}
use Rattle.recovery_plans.specs.Deciding.{follower_of}
use Rattle.recovery_plans.specs.declared.outcome.Follower.{Follower}
use Rattle.recovery_parts.specs.Grounds.{ground_by}
use Rattle.recovery_parts.proofs.choices.followers_all.Given as goal

abbrev pub invariant-loop-follower : goal.invariant-loop-follower
invariant-loop-follower l = l.all.items ≡ map (λ (x : Follower). follower_of (ground_by l.by) l.failed x.no) (take l.follower-index l.list)
