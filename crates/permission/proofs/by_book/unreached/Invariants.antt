use Rattle.std.proofs.Common.{◌≡◌, drop}
use Rattle.permission.proofs.Prelude.{first_about, unreached}
use Rattle.permission.proofs.by_book.unreached.Given as goal

abbrev pub invariant-loop-no : goal.invariant-loop-no
invariant-loop-no l = first_about (unreached l.book) (drop l.no-index l.servers) ≡ first_about (unreached l.book) l.servers
