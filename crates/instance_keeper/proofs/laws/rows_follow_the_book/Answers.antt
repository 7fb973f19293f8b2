use Rattle.instance_keeper.proofs.Books.{change_is}
use Rattle.instance_keeper.proofs.BookLaws.{rows_rising, book_change}
use Rattle.instance_keeper.proofs.laws.rows_follow_the_book.Goals as goal

pub returns : goal.returns
returns c = record {
  rising = rows_rising;
  changed = λ b change is h g. book_change b is change h g;
  book = change_is;
}
