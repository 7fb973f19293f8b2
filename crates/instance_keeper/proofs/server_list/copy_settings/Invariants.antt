use Rattle.std.proofs.Common.{◌≡◌, map, take}
use Rattle.instance_keeper.proofs.server_list.copy_settings.Given as goal

abbrev pub invariant-servers : goal.invariant-servers
invariant-servers l = l.copies.items ≡ map (λ s. s.now) (take l.server-index l.settings)
