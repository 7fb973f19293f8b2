use Rattle.std.proofs.Common.{◌≡◌, take}
use Rattle.plan_lines.proofs.Prelude.{straight_lines}
use Rattle.plan_lines.proofs.straight.straight_lines.Given as goal

abbrev pub invariant-loop-op : goal.invariant-loop-op
invariant-loop-op l = l.lines.items ≡ straight_lines l.book (take l.op-index l.ops)
