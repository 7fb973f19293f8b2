use Rattle.job_laws.proofs.Marking.{logs-place, logs-prefix, prefix-matches}
use Rattle.job_laws.proofs.matches.matched_logs_agree.Goals as goal

pub returns : goal.returns
returns c = record {
  place = logs-place;
  beginning = logs-prefix;
  found = prefix-matches;
}
