use Rattle.std.proofs.Common.{◌≡◌, drop}
use Rattle.permission.proofs.Prelude.{first_about, without_log}
use Rattle.permission.proofs.by_settings.not_logging.Given as goal

abbrev pub invariant-loop-no : goal.invariant-loop-no
invariant-loop-no l = first_about (without_log l.world) (drop l.no-index l.sources) ≡ first_about (without_log l.world) l.sources
