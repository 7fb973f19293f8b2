use Rattle.std.proofs.Common.{◌≡◌, drop}
use Rattle.opening_checks.proofs.Prelude.{links, links_after, with_links}
use Rattle.opening_checks.proofs.kin.add_links.Given as goal

abbrev pub invariant-loop-t : goal.invariant-loop-t
invariant-loop-t l = with_links l.rows (links_after l.before (drop l.t-index l.history)) ≡ with_links l.fn.rows (links l.history)
