use Rattle.std.proofs.Common.{◌≡◌, take}
use Rattle.opening_book.proofs.Prelude.{missing_from}
use Rattle.opening_book.proofs.opening.missing_instances.Given as goal

abbrev pub invariant-loop-no : goal.invariant-loop-no
invariant-loop-no l = l.changes.items ≡ missing_from l.world l.moment l.book 0 (take l.no l.known)
