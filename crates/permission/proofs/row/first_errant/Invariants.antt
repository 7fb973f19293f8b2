use Rattle.std.proofs.Common.{◌≡◌, drop}
use Rattle.permission.proofs.Prelude.{errant, first_about}
use Rattle.permission.proofs.row.first_errant.Given as goal

abbrev pub invariant-loop-one : goal.invariant-loop-one
invariant-loop-one l = first_about (errant l.world l.book) (drop l.one-index l.moves) ≡ first_about (errant l.world l.book) l.moves
