use Rattle.recovery_runs.proofs.Finishing.{aim-began, keeps-histories, lines-own, owes-nothing, reply-told}
use Rattle.recovery_runs.proofs.finished.finished_recoveries_owe_nothing.Goals as goal

pub returns : goal.returns
returns c = record {
  reply = λ s id r docket lines is. reply-told s id r docket lines is;
  own = λ s id r docket lines is. lines-own s id r docket lines is;
  owes = λ count rows s id r docket lines ready held covered is. owes-nothing s id r docket lines is count rows ready held covered;
  histories = λ rows s id r docket lines held sound covered kept is safe. keeps-histories s id r docket lines is rows held sound covered kept safe;
  aim = λ begun s id r docket lines held aimed is. aim-began s id r docket lines is begun held aimed;
}
