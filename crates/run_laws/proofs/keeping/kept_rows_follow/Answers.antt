use Rattle.run_laws.proofs.ClaimKept.{claim-row-whole}
use Rattle.run_laws.proofs.Audits.{Follow-whole, FollowAudit-start, FollowAudit-step, FollowAudit-whole}
use Rattle.run_laws.proofs.Follows.{Follow-start, Follow-step}
use Rattle.run_laws.proofs.Reloads.{reloaded-comes}
use Rattle.run_laws.proofs.keeping.kept_rows_follow.Goals as goal

pub returns : goal.returns
returns c = record {
  opening = Follow-start;
  turn = Follow-step;
  run = Follow-whole;
  opening_audit = FollowAudit-start;
  turn_audit = FollowAudit-step;
  run_audit = FollowAudit-whole;
  run_claim = claim-row-whole;
  restart = reloaded-comes;
}
