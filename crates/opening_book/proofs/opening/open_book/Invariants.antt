use Rattle.std.proofs.Common.{◌≡◌}
use Rattle.opening_book.proofs.Prelude.{opened_book}
use Rattle.opening_book.proofs.opening.open_book.Given as goal

abbrev pub invariant-changes : goal.invariant-changes
invariant-changes l = record {
  book : l.book ≡ opened_book l.initial.book l.yielded;
  names : l.book.names ≡ l.initial.book.names;
}
