use Rattle.std.proofs.Common.{◌≡◌, drop}
use Rattle.permission.proofs.Prelude.{busy, first_about}
use Rattle.permission.proofs.by_book.busy.Given as goal

abbrev pub invariant-loop-no : goal.invariant-loop-no
invariant-loop-no l = first_about (busy l.book) (drop l.no-index l.servers) ≡ first_about (busy l.book) l.servers
