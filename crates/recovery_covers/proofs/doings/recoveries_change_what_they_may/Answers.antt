use Rattle.recovery_covers.proofs.Doing.{decided-chooses, turn-makes}
use Rattle.recovery_covers.proofs.doings.recoveries_change_what_they_may.Goals as goal

pub returns-clause-chooses : goal.returns-clause-chooses
returns-clause-chooses c = λ w b read now r d placed rings held covers so. decided-chooses w b read now r placed rings held covers d so

pub returns-clause-changes : goal.returns-clause-changes
returns-clause-changes c = turn-makes
