use Rattle.std.proofs.Common.{◌≡◌, take}
use Rattle.scenarios.proofs.Prelude.{longest_flushes}
use Rattle.scenarios.proofs.room.longest_flushes.Given as goal

abbrev pub invariant-loop-server : goal.invariant-loop-server
invariant-loop-server l = l.longest ≡ longest_flushes (take l.server-index l.servers)
