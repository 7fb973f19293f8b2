use Rattle.job_laws.proofs.Matching.{match-allowed, match-can, match-crosses, match-meets, match-placed, match-well}
use Rattle.job_laws.proofs.matches.matches_cross_well.Goals as goal

pub returns : goal.returns
returns c = record {
  can = match-can;
  allowed = match-allowed;
  joins = match-crosses;
  well = match-well;
  placed = λ w n m every at placed h. match-placed w n m every at h placed;
  met = λ w n m every at safe h. match-meets w n m every at h safe;
}
