use Rattle.std.proofs.Common.{◌≡◌, drop}
use Rattle.permission.proofs.Prelude.{first_about, place_purged}
use Rattle.permission.proofs.by_book.first_place_purged.Given as goal

abbrev pub invariant-loop-no : goal.invariant-loop-no
invariant-loop-no l = first_about (place_purged l.book) (drop l.no-index l.servers) ≡ first_about (place_purged l.book) l.servers
