use Rattle.std.proofs.Common.{◌≡◌, drop}
use Rattle.permission.proofs.Prelude.{first_about, of_same_id}
use Rattle.permission.proofs.by_settings.same_id.Given as goal

abbrev pub invariant-loop-one : goal.invariant-loop-one
invariant-loop-one l = first_about (of_same_id l.world) (drop l.one-index l.moves) ≡ first_about (of_same_id l.world) l.moves
