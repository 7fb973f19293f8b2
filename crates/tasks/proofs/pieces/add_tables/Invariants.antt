use Rattle.std.proofs.Common.{◌≡◌, map, take}
use Rattle.tasks.proofs.Prelude.{number_of}
use Rattle.tasks.proofs.pieces.add_tables.Given as goal

abbrev pub invariant-loop-job : goal.invariant-loop-job
invariant-loop-job l = l.jobs.items ≡ map number_of (take l.job-index l.job-items)
