use Rattle.std.proofs.Common.{◌≡◌, ◌++◌, drop}
use Rattle.report_text.specs.Tables.{jobs_text}
use Rattle.report_text.proofs.table.print_jobs.Given as goal

abbrev pub invariant-loop-job : goal.invariant-loop-job
invariant-loop-job l = l.out.items ++ jobs_text (drop l.job-index l.jobs) ≡ l.fn.out.items ++ jobs_text l.jobs
