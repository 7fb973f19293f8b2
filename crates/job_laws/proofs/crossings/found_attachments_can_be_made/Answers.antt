use Rattle.job_laws.proofs.Bridging.{crossing-can, same-can, auto-can}
use Rattle.job_laws.proofs.crossings.found_attachments_can_be_made.Goals as goal

pub returns : goal.returns
returns c = record {
  crossing = λ w xs x a b e shown h. crossing-can w xs shown x a b e h;
  same = λ w xs n e shown h. same-can w xs shown n e h;
  auto = auto-can;
}
