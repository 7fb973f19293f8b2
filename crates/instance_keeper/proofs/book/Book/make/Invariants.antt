use Rattle.std.proofs.Common.{◌≡◌, take, fold}
use Rattle.instance_keeper.proofs.Prelude.{after_row, empty_book, names_of}
use Rattle.instance_keeper.proofs.book.Book.make.Given as goal

abbrev pub invariant-rows : goal.invariant-rows
invariant-rows l = record {
  made : l.book ≡ fold after_row (empty_book l.settings) (take l.row-index l.rows);
  settings : l.book.settings ≡ l.settings;
  names : l.book.names ≡ names_of l.settings;
}
