use Rattle.std.proofs.Common.{◌≡◌, take}
use Rattle.plan_lines.proofs.Prelude.{expected}
use Rattle.plan_lines.proofs.expected.expected.Given as goal

abbrev pub invariant-loop-no : goal.invariant-loop-no
invariant-loop-no l = l.list.items ≡ expected l.book (take l.no-index l.replicas)
