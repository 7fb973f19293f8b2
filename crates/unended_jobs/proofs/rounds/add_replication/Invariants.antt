use Rattle.std.proofs.Common.{◌≡◌, ◌++◌, take}
use Rattle.unended_jobs.proofs.Prelude.{flat_map, replicates}
use Rattle.unended_jobs.proofs.rounds.add_replication.Given as goal

abbrev pub invariant-loop-no : goal.invariant-loop-no
invariant-loop-no l = l.turns.items ≡ l.fn.turns.items ++ flat_map replicates (take l.no-index l.servers)
