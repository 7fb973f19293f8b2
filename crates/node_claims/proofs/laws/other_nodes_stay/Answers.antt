use Rattle.node_claims.specs.Claims.{claim_answer, is_of, may_act}
use Rattle.node_claims.proofs.Owned.{acted_elsewhere, acted_forgets, acted_kept, acted_long, answered_long, claimed_elsewhere, released_elsewhere, released_long}
use Rattle.node_claims.proofs.laws.other_nodes_stay.Goals as goal

pub returns : goal.returns
returns c = record {
  claimed = claimed_elsewhere;
  released = released_elsewhere;
  acted = acted_elsewhere;
  kept = acted_kept;
  forgets = acted_forgets;
  as_many = λ s node now. answered_long s node (claim_answer s node now);
  as_many_released = λ s node. released_long s node (is_of node s.kept);
  as_many_acted = λ s node now. acted_long s node (may_act s node now);
}
