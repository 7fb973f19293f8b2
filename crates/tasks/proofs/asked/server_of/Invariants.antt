use Rattle.std.proofs.Common.{◌≡◌, drop}
use Rattle.tasks.proofs.Prelude.{server_from, server_of}
use Rattle.tasks.proofs.asked.server_of.Given as goal

abbrev pub invariant-loop-no : goal.invariant-loop-no
invariant-loop-no l = server_of l.names l.name ≡ server_from l.name l.no (drop l.no l.names)
