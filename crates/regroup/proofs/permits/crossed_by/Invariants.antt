use Rattle.std.proofs.Common.{◌≡◌, take}
use Rattle.regroup.proofs.Prelude.{crossed_in, flat_map, path_to}
use Rattle.regroup.proofs.permits.crossed_by.Given as goal

abbrev pub invariant-loop-no : goal.invariant-loop-no
invariant-loop-no l = l.list.items ≡ flat_map (λ n. crossed_in n (path_to l.book l.d n)) (take l.no-index l.movers)
