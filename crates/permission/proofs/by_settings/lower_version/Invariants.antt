use Rattle.std.proofs.Common.{◌≡◌, drop}
use Rattle.permission.proofs.Prelude.{first_about, of_lower_version}
use Rattle.permission.proofs.by_settings.lower_version.Given as goal

abbrev pub invariant-loop-one : goal.invariant-loop-one
invariant-loop-one l = first_about (of_lower_version l.world) (drop l.one-index l.moves) ≡ first_about (of_lower_version l.world) l.moves
