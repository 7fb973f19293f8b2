use Rattle.std.proofs.Common.{◌≡◌}
use Rattle.kept_rows.proofs.memory.unboxed.Given as goal

abbrev pub invariant-rows : goal.invariant-rows
invariant-rows l = l.list.items ≡ l.yielded
