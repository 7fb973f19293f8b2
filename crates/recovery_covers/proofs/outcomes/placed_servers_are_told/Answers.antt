use Rattle.recovery_covers.proofs.Telling.{leader-told, all-told}
use Rattle.recovery_covers.proofs.outcomes.placed_servers_are_told.Goals as goal

pub returns-clause-leader : goal.returns-clause-leader
returns-clause-leader c = leader-told

pub returns-clause-servers : goal.returns-clause-servers
returns-clause-servers c w u f replicas o covers order = all-told w u f replicas o covers order
