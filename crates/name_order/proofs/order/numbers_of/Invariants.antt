use Rattle.std.proofs.Common.{◌≡◌, map, take, Bor, ℕ}
use Rattle.name_order.proofs.Prelude.{HostPort}
use Rattle.name_order.proofs.order.numbers_of.Given as goal

abbrev pub invariant-loop-server : goal.invariant-loop-server
invariant-loop-server l = l.numbers.items ≡ map (λ (s : ℕ × Bor HostPort). record { 0 = s.0 }) (take l.server-index l.servers)
