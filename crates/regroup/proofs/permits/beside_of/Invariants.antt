use Rattle.std.proofs.Common.{◌≡◌, ◌++◌, take}
use Rattle.regroup.proofs.Prelude.{flat_map, option_to_list, passed_in, path_to}
use Rattle.regroup.proofs.permits.beside_of.Given as goal

abbrev pub invariant-loop-no : goal.invariant-loop-no
invariant-loop-no l = l.list.items ≡ option_to_list l.d ++ flat_map (λ n. passed_in (path_to l.book l.d n)) (take l.no-index l.movers)
