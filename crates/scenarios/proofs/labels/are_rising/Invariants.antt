use Rattle.scenarios.proofs.Prelude.{IsSortedWithin, is_lt, nat_cmp, slice_cmp}
use Rattle.scenarios.proofs.labels.are_rising.Given as goal

abbrev pub invariant-loop-n : goal.invariant-loop-n
invariant-loop-n g l = IsSortedWithin (λ x y. is_lt (slice_cmp nat_cmp (g.T.Labelled.label_of x) (g.T.Labelled.label_of y))) l.entries 0 l.n
