use Rattle.std.proofs.Common.{◌≡◌, ◌++◌}
use Rattle.opening_book.proofs.opening.opening_changes.Given as goal

abbrev pub invariant-recoveries : goal.invariant-recoveries
invariant-recoveries l = l.changes.items ≡ l.initial.changes.items ++ l.yielded
