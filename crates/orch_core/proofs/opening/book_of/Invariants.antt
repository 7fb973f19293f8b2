use Rattle.std.proofs.Common.{◌≡◌, map, take}
use Rattle.orch_core.proofs.opening.book_of.Given as goal

abbrev pub invariant-servers : goal.invariant-servers
invariant-servers l = map (λ s. s.now) l.settings.items ≡ map (λ i. i.settings) (take l.server-index l.servers)
