use Rattle.std.proofs.Common.{◌≡◌}
use Rattle.live_calls.proofs.Prelude.{puts}
use Rattle.live_calls.proofs.rows.puts.Given as goal

abbrev pub invariant-rows : goal.invariant-rows
invariant-rows l = l.changes.items ≡ puts l.yielded
