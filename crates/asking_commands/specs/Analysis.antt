-- What is wrong with a book's instances.
use Rattle.std.specs.Prelude.{Bool, true, false, List, filter, map}
use Rattle.asking_commands.specs.Prelude.{BookState, Code, Entry, Line, analysis}
use Rattle.asking_commands.specs.Prelude.code
use Rattle.asking_commands.specs.Prelude.line

abbrev pub is_problem : Code → Bool
is_problem code.NoProblem = false
is_problem code.MasterSingleReplicaDead = true
is_problem code.MasterSingleReplicaNotReplicating = true
is_problem code.AllMasterReplicasNotReplicating = true
is_problem code.AllMasterReplicasNotReplicatingOrDead = true
is_problem code.DeadMasterWithoutReplicas = true
is_problem code.DeadMasterAndReplicas = true
is_problem code.DeadMaster = true
is_problem code.DeadMasterAndSomeReplicas = true
is_problem code.UnreachableMasterWithLaggingReplicas = true
is_problem code.UnreachableMaster = true
is_problem code.AllIntermediateMasterReplicasNotReplicating = true
is_problem code.DeadIntermediateMasterAndReplicas = true
is_problem code.DeadIntermediateMasterWithSingleReplica = true
is_problem code.DeadIntermediateMaster = true
is_problem code.DeadIntermediateMasterAndSomeReplicas = true
is_problem code.UnreachableIntermediateMasterWithLaggingReplicas = true
is_problem code.UnreachableIntermediateMaster = true

-- the code, and how many replicas there are, were reached, replicate and lag
abbrev pub problem_line : Entry → Line
problem_line e = line.Analysis e.no e.code e.counts.replicas e.counts.valid_replicas e.counts.replicating e.counts.lagging

-- the lines of the instances that have a problem, by name
abbrev pub analysis_lines : BookState → List Line
analysis_lines b = map problem_line (filter (λ e. is_problem e.code) (analysis b))
