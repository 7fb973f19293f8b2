use Rattle.std.proofs.Common.{◌≡◌, map, take, Bor, ℕ}
use Rattle.name_order.proofs.Prelude.{HostPort, enumerate_from}
use Rattle.name_order.proofs.order.numbered.Given as goal

abbrev pub invariant-loop-no : goal.invariant-loop-no
invariant-loop-no l = map (λ (s : ℕ × Bor HostPort). (s.0, s.1.now)) l.servers.items ≡ enumerate_from 0 (take l.no l.names)
