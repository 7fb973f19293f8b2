-- What a command that only asks the book or the audit answers.
use Rattle.std.specs.Prelude.{Bool, false, List, [], Option, Some, None, Result, Ok, Err}
use Rattle.asking_commands.specs.Prelude.{AllInstances, Analysis, Asks, Begins, BookState, Clusters, Command, CommandName, CommandTurn, Decides}
use Rattle.asking_commands.specs.Prelude.{Discovers, Find, Forgets, Found, Line, Question, Recoveries, Recovers, Recovery, Refusal, Route, ServerNo}
use Rattle.asking_commands.specs.Prelude.{Switch, TakesOver, Topology, WhichCluster, WhichClusterInstances, WhichMaster, WhichReplicas, is_instance}
use Rattle.asking_commands.specs.Prelude.{route_of, unknown_of}
use Rattle.asking_commands.specs.declared.answers.AnswerFault.{AnswerFault}
use Rattle.asking_commands.specs.declared.answers.AnswerFault.TheVariants as fault
use Rattle.asking_commands.specs.Asking.{all_instances, cluster_instances, cluster_of, found, master_of, replica_lines, switch_of}
use Rattle.asking_commands.specs.Analysis.{analysis_lines}
use Rattle.asking_commands.specs.Lines.{recovery_lines}
use Rattle.asking_commands.specs.Labels.{clusters_of}
use Rattle.asking_commands.specs.Trees.{topology_of}

-- an instance of the book is given
abbrev pub is_known : BookState → Option ServerNo → Bool
is_known b None = false
is_known b (Some i) = is_instance b i

-- the refusal of a command that uses an instance or a destination which isn't one of the book's
abbrev pub unknown_in : BookState → Command → Option Refusal
unknown_in b c = unknown_of c (is_known b c.i) (is_known b c.d)

abbrev pub allowed : Option Refusal → Result Unit Refusal
allowed None = Ok tt
allowed (Some refusal) = Err refusal

-- each instance that the command uses is one of the book
abbrev pub permitted : BookState → Command → Result Unit Refusal
permitted b c = allowed (unknown_in b c)

abbrev pub answers_of : Option Found → List Bool
answers_of None = []
answers_of (Some f) = f.answers

-- the lines about the instance, if one is given
abbrev pub about : (ServerNo → List Line) → Option ServerNo → List Line
about lines None = []
about lines (Some i) = lines i

abbrev pub answer_to : BookState → List Recovery → CommandTurn → Question → List Line
answer_to b rs t Topology = about (topology_of b) t.command.i
answer_to b rs t WhichMaster = about (master_of b) t.command.i
answer_to b rs t WhichReplicas = about (replica_lines b) t.command.i
answer_to b rs t WhichCluster = about (cluster_of b) t.command.i
answer_to b rs t WhichClusterInstances = about (cluster_instances b) t.command.i
answer_to b rs t Clusters = clusters_of b
answer_to b rs t AllInstances = all_instances b
answer_to b rs t Find = found b (answers_of t.keys.pattern)
answer_to b rs t Analysis = analysis_lines b
answer_to b rs t Recoveries = recovery_lines rs
answer_to b rs t Switch = switch_of b

-- a question is answered; what does anything else has no lines here
abbrev pub lines_by : BookState → List Recovery → CommandTurn → Route → List Line
lines_by b rs t (Asks question) = answer_to b rs t question
lines_by b rs t Discovers = []
lines_by b rs t Forgets = []
lines_by b rs t (Decides decision) = []
lines_by b rs t (Begins planner) = []
lines_by b rs t Recovers = []
lines_by b rs t TakesOver = []

-- the lines of a command, by the book and the audit's recoveries
abbrev pub lines_of : BookState → List Recovery → CommandTurn → CommandName → List Line
lines_of b rs t name = lines_by b rs t (route_of name)

abbrev pub unless_refused : Result Unit Refusal → List Line → Result (List Line) AnswerFault
unless_refused (Err refusal) lines = Err (fault.Refused refusal)
unless_refused (Ok permit) lines = Ok lines

unfoldable pub answer_of : BookState → List Recovery → CommandTurn → Result (List Line) AnswerFault
answer_of b rs t = unless_refused (permitted b t.command) (lines_of b rs t t.command.name)

-- the fault of an answer, and nothing if memory runs out
abbrev pub answer_fault : AnswerFault → Option AnswerFault
answer_fault (fault.Refused refusal) = Some (fault.Refused refusal)
answer_fault fault.Memory = None
