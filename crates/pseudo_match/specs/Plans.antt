-- The plans of these commands.
use Rattle.std.specs.Prelude.{ℕ, Bool, true, false, List, [], ◌∷◌, Option, Some, None}
use Rattle.permission.specs.OrchBase.declared.server.ServerNo.{ServerNo}
use Rattle.permission.specs.Commands.declared.line.Line.TheVariants.{Follows}
use Rattle.permission.specs.Commands.declared.turn.Command.{Command}
use Rattle.permission.specs.InstanceKeeper.Book.{BookState}
use Rattle.permission.specs.Operations.declared.op.Op.{Op}
use Rattle.permission.specs.Operations.Plans.{finished}
use Rattle.permission.specs.Replicas.{replicas_but}
use Rattle.permission.specs.Rows.{about}
use Rattle.permission.specs.Views.{source_above}
use Rattle.plan_parts.specs.Parts.{following, matching, matchings}
use Rattle.permission.specs.Commands.declared.kinds.MatchCommand.{MatchCommand}
use Rattle.permission.specs.Commands.declared.kinds.MatchCommand.TheVariants as command
use Rattle.pseudo_match.specs.Commands.{pseudo_command}

-- i goes below d, by marks of this distance
abbrev pub moved : ServerNo → ℕ → Option ServerNo → List Op
moved i every None = []
moved i every (Some d) = finished (matching i d every) (Follows i d ∷ [])

-- replicas go below d, one after another
abbrev pub replicas_moved : List ServerNo → ℕ → Option ServerNo → List Op
replicas_moved replicas every None = []
replicas_moved replicas every (Some d) = finished (matchings replicas d every) (following replicas d)

-- the operations of a regroup aren't known before its job begins: they go by what its replicas turn out to have
abbrev pub is_planned : MatchCommand → Bool
is_planned command.Match = true
is_planned command.MatchUp = true
is_planned command.MatchReplicas = true
is_planned command.RegroupReplicas = false

abbrev pub has_plan : Option MatchCommand → Bool
has_plan None = false
has_plan (Some kind) = is_planned kind

-- a command's operations, by the instance and the destination that is given; none of a regroup, whose operations go by
-- what its replicas turn out to have
abbrev pub ops_of : BookState → ℕ → MatchCommand → ServerNo → Option ServerNo → List Op
ops_of b every command.Match i d = moved i every d
ops_of b every command.MatchUp i d = moved i every (source_above b i)
ops_of b every command.MatchReplicas i d = replicas_moved (replicas_but b i d) every d
ops_of b every command.RegroupReplicas i d = []

-- the operations of one of these commands, if nothing refuses it, with marks at this distance
abbrev pub plan_of : BookState → ℕ → Command → List Op
plan_of b every given = about [] (ops_of b every) (pseudo_command given.name) given
