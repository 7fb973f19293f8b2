use Rattle.std.proofs.Common.{◌≡◌, replicate}
use Rattle.orch_core.proofs.polls.make_polls.Given as goal

abbrev pub invariant-servers : goal.invariant-servers
invariant-servers l = l.polls.items ≡ replicate l.counter 0
