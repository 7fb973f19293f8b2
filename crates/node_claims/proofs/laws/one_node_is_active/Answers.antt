use Rattle.node_claims.proofs.Owned.{acting_told, active_told, kept_of_active, one_active, short_claims, told_truly}
use Rattle.node_claims.proofs.laws.one_node_is_active.Goals as goal

pub returns : goal.returns
returns c = record {
  one = one_active;
  kept = kept_of_active;
  told = active_told;
  truly = told_truly;
  acting = acting_told;
  short = short_claims;
}
