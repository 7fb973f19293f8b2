use Rattle.opening_book.proofs.Following.{Follow-loaded, Follow-change, Follow-opening}
use Rattle.opening_book.proofs.laws.kept_rows_follow_the_book.Goals as goal

pub returns : goal.returns
returns c = record {
  loaded = Follow-loaded;
  changed = Follow-change;
  opening = Follow-opening;
}
