use Rattle.std.proofs.Common.{◌≡◌, length}
use Rattle.book_tests.proofs.rows.settings.Given as goal

abbrev pub invariant-loop-name : goal.invariant-loop-name
invariant-loop-name l = length l.settings.items ≡ l.name-index
