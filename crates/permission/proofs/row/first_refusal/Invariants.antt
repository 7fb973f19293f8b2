use Rattle.std.proofs.Common.{◌≡◌, drop}
use Rattle.permission.proofs.Prelude.{first_about, refusal_by}
use Rattle.permission.proofs.row.first_refusal.Given as goal

abbrev pub invariant-loop-check : goal.invariant-loop-check
invariant-loop-check l = first_about (refusal_by l.world l.book l.case) (drop l.check-index l.row) ≡ first_about (refusal_by l.world l.book l.case) l.row
