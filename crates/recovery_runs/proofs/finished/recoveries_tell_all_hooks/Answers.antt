use Rattle.recovery_runs.proofs.HookTellings.{early-still, failure-tells, failure-told, finish-tells}
use Rattle.recovery_runs.proofs.finished.recoveries_tell_all_hooks.Goals as goal

pub returns : goal.returns
returns c = record {
  done = λ s id r docket lines tended is. finish-tells s id r docket tended lines is;
  failed = λ s id r docket k lines tended is. (failure-told s id r docket tended k lines is, failure-tells s id r docket tended k lines is);
  still = λ rows s id r docket h tended found has early. early-still s id r docket tended rows h found has early;
}
