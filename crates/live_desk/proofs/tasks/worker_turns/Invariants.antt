use Rattle.std.proofs.Common.{◌≤◌}
use Rattle.live_desk.proofs.tasks.worker_turns.Given as goal

abbrev pub invariant-turns : goal.invariant-turns
invariant-turns g l = 2 ≤ l.pass.by
