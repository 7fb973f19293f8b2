use Rattle.std.proofs.Common.{◌≡◌, take}
use Rattle.opening_book.proofs.Prelude.{latest}
use Rattle.opening_book.proofs.counting.latest_moment.Given as goal

abbrev pub invariant-rows : goal.invariant-rows
invariant-rows l = l.latest.0 ≡ latest l.fn.now.0 (take l.row-index l.rows)
