use Rattle.std.proofs.Common.{◌≡◌, ◌++◌, take}
use Rattle.unended_jobs.proofs.Prelude.{flat_map, polls}
use Rattle.unended_jobs.proofs.rounds.add_polls.Given as goal

abbrev pub invariant-loop-no : goal.invariant-loop-no
invariant-loop-no l = l.turns.items ≡ l.fn.turns.items ++ flat_map polls (take l.no-index l.servers)
