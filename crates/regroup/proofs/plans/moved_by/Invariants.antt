use Rattle.std.proofs.Common.{◌≡◌, take}
use Rattle.regroup.proofs.Prelude.{flat_map, path_of, travelled}
use Rattle.regroup.proofs.plans.moved_by.Given as goal

abbrev pub invariant-loop-no : goal.invariant-loop-no
invariant-loop-no l = l.ops.items ≡ flat_map (λ n. travelled n l.d (path_of l.book n l.d)) (take l.no-index l.movers)
