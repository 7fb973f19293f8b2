use Rattle.std.proofs.Common.{◌≡◌, ℕ, ◌<◌, length, Some, slice_get}
use Rattle.openings.specs.Opening.{IsServer}
use Rattle.openings.specs.declared.init.ServerInit.{ServerInit}
use Rattle.made_openings.proofs.listed.are_servers.Given as goal

abbrev pub invariant-loop-server : goal.invariant-loop-server
invariant-loop-server l = (n : ℕ) (i : ServerInit) → n < l.server-index → slice_get l.servers n ≡ Some i → IsServer (length l.servers) l.gtid i
