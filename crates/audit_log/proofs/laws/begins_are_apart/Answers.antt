use Rattle.audit_log.proofs.Parting.{apart-begins, begins-apart, held-back, last-held}
use Rattle.audit_log.proofs.laws.begins_are_apart.Goals as goal

pub returns : goal.returns
returns c = record {
  apart = λ a cluster now id. apart-begins cluster now a id;
  exactly = λ a cluster now. begins-apart cluster now a;
  held = λ a cluster now h. held-back cluster now a h;
  last = λ a cluster now id until. last-held cluster now a id until;
}
