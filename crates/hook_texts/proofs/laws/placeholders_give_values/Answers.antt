use Rattle.hook_texts.proofs.Reading.{read_placeholder}
use Rattle.hook_texts.proofs.Told.{failed_told, failure_told, nobody_told, successful_told, successor_told, unsuccessful_told}
use Rattle.hook_texts.proofs.laws.placeholders_give_values.Goals as goal

pub returns : goal.returns
returns c = record {
  value = read_placeholder;
  failure = failure_told;
  failed = failed_told;
  successor = successor_told;
  nobody = nobody_told;
  successful = successful_told;
  unsuccessful = unsuccessful_told;
}
