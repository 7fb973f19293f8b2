use Rattle.std.proofs.Common.{◌≡◌, map, take}
use Rattle.openings.proofs.opening.names_of.Given as goal

abbrev pub invariant-loop-server : goal.invariant-loop-server
invariant-loop-server l = l.names.items ≡ map (λ i. i.settings.name) (take l.server-index l.servers)
