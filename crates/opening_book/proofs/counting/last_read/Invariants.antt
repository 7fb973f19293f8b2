use Rattle.std.proofs.Common.{◌≡◌, take}
use Rattle.opening_book.proofs.Prelude.{last_read}
use Rattle.opening_book.proofs.counting.last_read.Given as goal

abbrev pub invariant-rows : goal.invariant-rows
invariant-rows l = l.last ≡ last_read (take l.row-index l.rows)
