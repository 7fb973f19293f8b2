use Rattle.std.proofs.Common.{◌≡◌, ◌++◌, take, filter_map}
use Rattle.recovery_turns.proofs.Prelude.{decided_on, replica_line}
use Rattle.recovery_turns.proofs.decided.Decided.add_replicas.Given as goal

abbrev pub invariant-loop-no : goal.invariant-loop-no
invariant-loop-no l = l.lines.items ≡ l.initial.lines.items ++ filter_map (replica_line (decided_on l.of l.self).outcome) (take l.no-index l.order)
