use Rattle.node_claims.proofs.Owned.{released_free}
use Rattle.node_claims.proofs.laws.releases_free_the_claim.Goals as goal

pub returns-clause-released : goal.returns-clause-released
returns-clause-released c = released_free
