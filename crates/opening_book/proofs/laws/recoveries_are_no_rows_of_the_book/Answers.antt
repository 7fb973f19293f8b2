use Rattle.opening_book.proofs.Following.{Follow-recoveries}
use Rattle.opening_book.proofs.Recoveries.{Follow-given}
use Rattle.opening_book.proofs.laws.recoveries_are_no_rows_of_the_book.Goals as goal

pub returns : goal.returns
returns c = record {
  put = Follow-recoveries;
  given = Follow-given;
}
