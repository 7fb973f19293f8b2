use Rattle.std.proofs.Common.{◌≡◌, take}
use Rattle.opening_book.proofs.Prelude.{last_id}
use Rattle.opening_book.proofs.audit.last_id.Given as goal

abbrev pub invariant-rows : goal.invariant-rows
invariant-rows l = l.last ≡ last_id (take l.row-index l.rows)
