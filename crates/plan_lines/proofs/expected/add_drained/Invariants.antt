use Rattle.std.proofs.Common.{◌≡◌, ◌++◌, take}
use Rattle.plan_lines.proofs.Prelude.{all_drained}
use Rattle.plan_lines.proofs.expected.add_drained.Given as goal

abbrev pub invariant-loop-no : goal.invariant-loop-no
invariant-loop-no l = l.lines.items ≡ l.initial.lines.items ++ all_drained l.book l.failed (take l.no-index l.replicas)
