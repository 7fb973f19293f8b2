use Rattle.run_laws.proofs.Acting.{active-alike, lapsed-keep-nothing}
use Rattle.run_laws.proofs.NodeClaims.{every-acting, every-kept, every-one, every-reached, lapsed-idle}
use Rattle.run_laws.proofs.claims.one_orchestrator_is_active.Goals as goal

pub returns : goal.returns
returns c = record {
  reached = every-reached;
  one = every-one;
  kept = every-kept;
  acting = every-acting;
  lapsed = λ s xs now t comes. lapsed-idle now t;
  alike = active-alike;
  keeps_nothing = lapsed-keep-nothing;
}
