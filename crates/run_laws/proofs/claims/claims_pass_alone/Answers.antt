use Rattle.std.proofs.Common.{length}
use Rattle.run_laws.proofs.Acting.{held-last, passing-is-restart, renewing-alone, taken-nothing}
use Rattle.run_laws.proofs.Counting.{reckoned-comes}
use Rattle.run_laws.proofs.NodeClaims.{begun-since, passing-drops, passing-restarts, waits}
use Rattle.run_laws.proofs.claims.claims_pass_alone.Goals as goal

pub returns : goal.returns
returns c = record {
  waits = λ s xs now t comes. waits now t;
  restart = λ s xs now t comes. passing-restarts now t;
  jobs = λ s xs now t comes. passing-drops now t;
  since = λ s xs now t comes. begun-since (length s.opening.servers) now t (reckoned-comes s xs now comes.comes);
  passing = passing-is-restart;
  renewing = renewing-alone;
  minute = held-last;
  taken = taken-nothing;
}
