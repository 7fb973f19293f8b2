-- The plans of these commands.
use Rattle.std.specs.Prelude.{List, [], ◌∷◌, Option, Some, None}
use Rattle.permission.specs.OrchBase.declared.server.ServerNo.{ServerNo}
use Rattle.permission.specs.Commands.declared.line.Line.TheVariants.{Follows, Server}
use Rattle.permission.specs.Commands.declared.turn.Command.{Command}
use Rattle.permission.specs.InstanceKeeper.Book.{BookState}
use Rattle.permission.specs.Operations.declared.op.Op.{Op}
use Rattle.permission.specs.Operations.Plans.{again, auto, finished}
use Rattle.permission.specs.Replicas.{replicas_but}
use Rattle.permission.specs.Rows.{about}
use Rattle.permission.specs.Views.{source_of}
use Rattle.plan_parts.specs.Parts.{again_auto, autos, following}
use Rattle.permission.specs.Commands.declared.kinds.GtidCommand.{GtidCommand}
use Rattle.permission.specs.Commands.declared.kinds.GtidCommand.TheVariants as command
use Rattle.moves_gtid.specs.Commands.{gtid_command}

-- i goes below d
abbrev pub moved : ServerNo → Option ServerNo → List Op
moved i None = []
moved i (Some d) = finished (auto i d) (Follows i d ∷ [])

-- replicas go below d, one after another
abbrev pub replicas_moved : List ServerNo → Option ServerNo → List Op
replicas_moved replicas None = []
replicas_moved replicas (Some d) = finished (autos replicas d) (following replicas d)

-- i, which is below x, finds its place there by GTIDs
abbrev pub enabled : ServerNo → Option ServerNo → List Op
enabled i None = []
enabled i (Some x) = finished (again_auto i x) (Server i ∷ [])

-- i, which is below x, goes on there by coordinates
abbrev pub disabled : ServerNo → Option ServerNo → List Op
disabled i None = []
disabled i (Some x) = finished (again i x) (Server i ∷ [])

-- a command's operations, by the instance and the destination that is given
abbrev pub ops_of : BookState → GtidCommand → ServerNo → Option ServerNo → List Op
ops_of b command.MoveGtid i d = moved i d
ops_of b command.MoveReplicasGtid i d = replicas_moved (replicas_but b i d) d
ops_of b command.EnableGtid i d = enabled i (source_of b i)
ops_of b command.DisableGtid i d = disabled i (source_of b i)

-- the operations of one of these commands, if nothing refuses it
abbrev pub plan_of : BookState → Command → List Op
plan_of b given = about [] (ops_of b) (gtid_command given.name) given
