use Rattle.std.proofs.Common.{◌≡◌, map, take, filter}
use Rattle.recovery_turns.proofs.Prelude.{decided_on, expels, why_of}
use Rattle.recovery_turns.proofs.Prelude.task
use Rattle.recovery_turns.proofs.decided.Decided.expelling.Given as goal

abbrev pub invariant-loop-no : goal.invariant-loop-no
invariant-loop-no l = l.tasks.items ≡ map task.Expelling (filter (λ n. expels l.of.purpose (why_of (decided_on l.of l.self).outcome.lost n)) (take l.no-index l.of.replicas))
