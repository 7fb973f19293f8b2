use Rattle.job_laws.proofs.Trying.{cross-tried, same-tried, auto-tried, match-tried}
use Rattle.job_laws.proofs.crossings.held_attachments_are_tried.Goals as goal

pub returns : goal.returns
returns c = record {
  crossing = λ w read now j rest x a b shown h. cross-tried w j rest read now x a b shown h;
  same = λ w read now j rest n shown h. same-tried w j rest read now n shown h;
  auto = λ w read now j rest n m h. auto-tried w j rest read now n m h;
  matched = λ w read now j rest n m placed h. match-tried w j rest read now n m placed h;
}
