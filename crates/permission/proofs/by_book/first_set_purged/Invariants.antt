use Rattle.std.proofs.Common.{◌≡◌, drop}
use Rattle.permission.proofs.Prelude.{first_about, set_purged}
use Rattle.permission.proofs.by_book.first_set_purged.Given as goal

abbrev pub invariant-loop-one : goal.invariant-loop-one
invariant-loop-one l = first_about (set_purged l.book) (drop l.one-index l.moves) ≡ first_about (set_purged l.book) l.moves
