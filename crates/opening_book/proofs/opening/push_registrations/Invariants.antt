use Rattle.std.proofs.Common.{◌≡◌, ◌++◌, take}
use Rattle.opening_book.proofs.Prelude.{registering_from}
use Rattle.opening_book.proofs.opening.push_registrations.Given as goal

abbrev pub invariant-loop-no : goal.invariant-loop-no
invariant-loop-no l = l.changes.items ≡ l.fn.changes.items ++ registering_from l.at l.book 0 (take l.no l.rules)
