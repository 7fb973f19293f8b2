use Rattle.recovery_covers.proofs.Placing.{replica-placed, follower-owed}
use Rattle.recovery_covers.proofs.outcomes.covered_replicas_have_one_place.Goals as goal

pub returns-clause-replica : goal.returns-clause-replica
returns-clause-replica c = replica-placed

pub returns-clause-follower : goal.returns-clause-follower
returns-clause-follower c = follower-owed
