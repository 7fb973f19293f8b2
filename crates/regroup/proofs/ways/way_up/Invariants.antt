use Rattle.std.proofs.Common.{◌≡◌, ◌++◌, option_map}
use Rattle.regroup.proofs.Prelude.{parent_at, way_in, way_up}
use Rattle.regroup.proofs.ways.way_up.Given as goal

abbrev pub invariant-climb : goal.invariant-climb
invariant-climb l = option_map (λ rest. l.passed.items ++ rest) (way_in (parent_at l.book) l.to l.steps l.at) ≡ way_up l.book l.fn.no l.to

abbrev pub decreases-climb : goal.decreases-climb
decreases-climb l = l.steps
