use Rattle.std.proofs.Common.{◌≡◌, take}
use Rattle.orch_core.proofs.Prelude.{kept_claim}
use Rattle.orch_core.proofs.claiming.kept_claim.Given as goal

abbrev pub invariant-loop-row : goal.invariant-loop-row
invariant-loop-row l = l.kept ≡ kept_claim (take l.row-index l.rows)
