use Rattle.std.proofs.Common.{◌≡◌, drop}
use Rattle.permission.proofs.Prelude.{first_about, unlogged}
use Rattle.permission.proofs.by_settings.moved_not_logging.Given as goal

abbrev pub invariant-loop-one : goal.invariant-loop-one
invariant-loop-one l = first_about (unlogged l.world) (drop l.one-index l.moves) ≡ first_about (unlogged l.world) l.moves
