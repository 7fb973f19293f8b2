use Rattle.std.proofs.Common.{◌≡◌, drop}
use Rattle.permission.proofs.Prelude.{first_about, of_other_cluster}
use Rattle.permission.proofs.by_settings.other_cluster.Given as goal

abbrev pub invariant-loop-one : goal.invariant-loop-one
invariant-loop-one l = first_about (of_other_cluster l.world) (drop l.one-index l.moves) ≡ first_about (of_other_cluster l.world) l.moves
