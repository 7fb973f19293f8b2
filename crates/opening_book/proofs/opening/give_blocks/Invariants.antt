use Rattle.std.proofs.Common.{◌≡◌, take}
use Rattle.opening_book.proofs.Prelude.{blocks_given}
use Rattle.opening_book.proofs.opening.give_blocks.Given as goal

abbrev pub invariant-loop-row : goal.invariant-loop-row
invariant-loop-row g l = l.changes.items ≡ blocks_given (g.P.Periods.period_of l.periods) (take l.row-index l.rows)
