use Rattle.std.proofs.Common.{◌≡◌, drop}
use Rattle.permission.proofs.Prelude.{first_about, of_below}
use Rattle.permission.proofs.by_book.below.Given as goal

abbrev pub invariant-loop-one : goal.invariant-loop-one
invariant-loop-one l = first_about (of_below l.book) (drop l.one-index l.moves) ≡ first_about (of_below l.book) l.moves
