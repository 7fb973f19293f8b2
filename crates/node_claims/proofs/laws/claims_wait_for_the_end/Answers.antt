use Rattle.node_claims.proofs.Owned.{holder_is_active, holder_lasts}
use Rattle.node_claims.proofs.laws.claims_wait_for_the_end.Goals as goal

pub returns-clause-active : goal.returns-clause-active
returns-clause-active c = holder_is_active

pub returns-clause-lasts : goal.returns-clause-lasts
returns-clause-lasts c = holder_lasts
