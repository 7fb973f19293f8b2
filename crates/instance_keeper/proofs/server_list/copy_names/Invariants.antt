use Rattle.std.proofs.Common.{◌≡◌, map, take}
use Rattle.instance_keeper.proofs.server_list.copy_names.Given as goal

abbrev pub invariant-loop-server : goal.invariant-loop-server
invariant-loop-server l = l.names.items ≡ map (λ s. s.name) (take l.server-index l.settings)
