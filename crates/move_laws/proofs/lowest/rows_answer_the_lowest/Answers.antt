use Rattle.move_laws.proofs.Checks.{check-number}
use Rattle.move_laws.proofs.Numbered.{row-passes, row-refuses, row-lowest}
use Rattle.move_laws.proofs.lowest.rows_answer_the_lowest.Goals as goal

pub returns : goal.returns
returns c = record {
  number = check-number;
  passes = row-passes;
  refuses = row-refuses;
  lowest = row-lowest;
}
