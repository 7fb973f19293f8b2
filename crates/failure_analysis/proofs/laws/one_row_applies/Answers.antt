use Rattle.failure_analysis.proofs.Rows.{last-row, one-row, row-code}
use Rattle.failure_analysis.proofs.laws.one_row_applies.Goals as goal

pub returns : goal.returns
returns c = record {
  one = one-row;
  code = row-code;
  otherwise = last-row;
}
