use Rattle.std.proofs.Common.{◌≡◌, take, Some}
use Rattle.permission.proofs.Prelude.{moves_to}
use Rattle.permission.proofs.case.moves_to.Given as goal

abbrev pub invariant-loop-no : goal.invariant-loop-no
invariant-loop-no l = l.moves.items ≡ moves_to (take l.no-index l.servers) (Some l.source)
