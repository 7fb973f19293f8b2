use Rattle.std.proofs.Common.{◌≡◌, drop}
use Rattle.opening_checks.proofs.Prelude.{agrees_at, agrees_throughout, links_after, list_all}
use Rattle.opening_checks.proofs.kin.agrees_throughout.Given as goal

abbrev pub invariant-loop-t : goal.invariant-loop-t
invariant-loop-t l = list_all (agrees_at l.rows) (links_after l.before (drop l.t-index l.history)) ≡ agrees_throughout l.rows l.history
