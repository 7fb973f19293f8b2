use Rattle.std.proofs.Common.{◌≡◌, map, take, filter}
use Rattle.asking_commands.specs.Analysis.{is_problem, problem_line}
use Rattle.asking_commands.proofs.analysis.replication_analysis.Given as goal

abbrev pub invariant-loop-entry : goal.invariant-loop-entry
invariant-loop-entry l = l.lines.items ≡ map problem_line (filter (λ e. is_problem e.code) (take l.entry-index l.entry-items))
