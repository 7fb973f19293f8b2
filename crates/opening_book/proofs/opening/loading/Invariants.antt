use Rattle.std.proofs.Common.{◌≡◌, ◌++◌, map}
use Rattle.opening_book.proofs.Prelude.{put_recovery}
use Rattle.opening_book.proofs.opening.loading.Given as goal

abbrev pub invariant-closed : goal.invariant-closed
invariant-closed g l = l.changes.items ≡ l.initial.changes.items ++ map put_recovery l.yielded
