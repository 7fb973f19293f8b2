use Rattle.run_laws.proofs.Permissions.{answers_by_table, begun_counts, begun_joins, begun_kept, begun_leased, begun_logged, begun_number, begun_numbered, begun_replies, begun_there, refused_changes_nothing}
use Rattle.run_laws.proofs.Failures.{spends-last}
use Rattle.run_laws.proofs.Lowest.{lowest-refuses}
use Rattle.run_laws.proofs.answering.commands_answer_by_the_table.Goals as goal

pub returns : goal.returns
returns c = record {
  answer = answers_by_table;
  lowest = lowest-refuses;
  refused = refused_changes_nothing;
  number = begun_number;
  job = begun_there;
  begun = begun_replies;
  numbered = begun_numbered;
  joins = begun_joins;
  last = begun_counts;
  leases = begun_leased;
  audit = begun_logged;
  kept = begun_kept;
  waits = λ s turn x begun. spends-last s turn.command x begun;
}
