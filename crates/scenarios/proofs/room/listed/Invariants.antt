use Rattle.std.proofs.Common.{◌≡◌, take}
use Rattle.scenarios.proofs.Prelude.{listed_in}
use Rattle.scenarios.proofs.room.listed.Given as goal

abbrev pub invariant-loop-server : goal.invariant-loop-server
invariant-loop-server l = l.sum ≡ listed_in (take l.server-index l.servers)
