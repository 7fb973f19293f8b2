use Rattle.std.proofs.Common.{◌≡◌, drop}
use Rattle.regroup.proofs.Prelude.{first_about, without_path}
use Rattle.regroup.proofs.permits.astray.Given as goal

abbrev pub invariant-loop-no : goal.invariant-loop-no
invariant-loop-no l = first_about (without_path l.book l.d) (drop l.no-index l.movers) ≡ first_about (without_path l.book l.d) l.movers
