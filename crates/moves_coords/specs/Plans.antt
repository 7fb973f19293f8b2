-- The plans of these commands.
use Rattle.std.specs.Prelude.{Bool, true, false, List, [], ◌∷◌, Option, Some, None}
use Rattle.std.specs.Option.{option_or}
use Rattle.permission.specs.OrchBase.declared.server.ServerNo.{ServerNo}
use Rattle.permission.specs.Commands.declared.line.Line.TheVariants.{Follows, Server}
use Rattle.permission.specs.Commands.declared.turn.Command.{Command}
use Rattle.permission.specs.InstanceKeeper.Book.{BookState}
use Rattle.permission.specs.Operations.declared.op.Op.{Op}
use Rattle.permission.specs.Operations.declared.op.Op.TheVariants as op
use Rattle.permission.specs.Operations.Plans.{again, asking, auto, finished, swap, under, up}
use Rattle.plan_parts.specs.Parts.{following, unders, ups}
use Rattle.permission.specs.BookViews.Sources.{replicas_of}
use Rattle.permission.specs.ServerModel.Worlds.{World}
use Rattle.permission.specs.Replicas.{siblings_of}
use Rattle.permission.specs.Rows.{about}
use Rattle.permission.specs.Views.{source_above, source_of}
use Rattle.permission.specs.Commands.declared.kinds.CoordsCommand.{CoordsCommand}
use Rattle.permission.specs.Commands.declared.kinds.CoordsCommand.TheVariants as command
use Rattle.moves_coords.specs.Commands.{coords_command}
use Rattle.moves_coords.specs.Permits.{by_gtids}

-- i, which is below x, goes to x's source g
abbrev pub moved_up : ServerNo → Option ServerNo → Option ServerNo → List Op
moved_up i None g = []
moved_up i (Some x) None = []
moved_up i (Some x) (Some g) = finished (up i x g) (Follows i g ∷ [])

-- replicas of i, which is below x, go to x
abbrev pub replicas_moved_up : List ServerNo → ServerNo → Option ServerNo → List Op
replicas_moved_up replicas i None = []
replicas_moved_up replicas i (Some x) = finished (ups replicas i x) (following replicas x)

-- i, which is below x, goes below d
abbrev pub moved_below : ServerNo → Option ServerNo → Option ServerNo → List Op
moved_below i None x = []
moved_below i (Some d) None = []
moved_below i (Some d) (Some x) = finished (under i d x) (Follows i d ∷ [])

-- i, which is below x, goes on there by coordinates
abbrev pub repointed : ServerNo → Option ServerNo → List Op
repointed i None = []
repointed i (Some x) = finished (again i x) (Follows i x ∷ [])

-- i goes below d by GTIDs
abbrev pub repointed_auto : ServerNo → Option ServerNo → List Op
repointed_auto i None = []
repointed_auto i (Some d) = finished (auto i d) (Follows i d ∷ [])

abbrev pub repointed_by : Bool → ServerNo → Option ServerNo → Option ServerNo → List Op
repointed_by true i d x = repointed_auto i (option_or d x)
repointed_by false i d x = repointed i x

-- siblings of i, which is below x, go below i
abbrev pub siblings_taken : List ServerNo → ServerNo → Option ServerNo → List Op
siblings_taken siblings i None = []
siblings_taken siblings i (Some x) = finished (unders siblings i x) (following siblings i)

-- i, which is below x, and x change places under x's source g
abbrev pub master_taken : ServerNo → Option ServerNo → Option ServerNo → List Op
master_taken i None g = []
master_taken i (Some x) None = []
master_taken i (Some x) (Some g) = finished (swap i x g) (Follows i g ∷ Follows x i ∷ [])

-- one operation of i, and its name at the end
abbrev pub asked : Op → ServerNo → List Op
asked one i = finished (asking one i) (Server i ∷ [])

-- one operation of i before it is started
abbrev pub asked_started : Op → ServerNo → List Op
asked_started first i = finished (first ∷ asking (op.Start i) i) (Server i ∷ [])

-- a command's operations, by the instance and the destination that is given
abbrev pub ops_of : World → BookState → CoordsCommand → ServerNo → Option ServerNo → List Op
ops_of w b command.MoveUp i d = moved_up i (source_of b i) (source_above b i)
ops_of w b command.MoveUpReplicas i d = replicas_moved_up (replicas_of b i) i (source_of b i)
ops_of w b command.MoveBelow i d = moved_below i d (source_of b i)
ops_of w b command.Repoint i d = repointed_by (by_gtids w b i) i d (source_of b i)
ops_of w b command.TakeSiblings i d = siblings_taken (siblings_of b i) i (source_of b i)
ops_of w b command.TakeMaster i d = master_taken i (source_of b i) (source_above b i)
ops_of w b command.DetachReplica i d = asked (op.Detach i) i
ops_of w b command.ReattachReplica i d = asked_started (op.Reattach i) i
ops_of w b command.ResetReplica i d = asked (op.Reset i) i
ops_of w b command.StartReplica i d = asked (op.Start i) i
ops_of w b command.StopReplica i d = asked (op.Stop i) i
ops_of w b command.RestartReplica i d = asked_started (op.Stop i) i
ops_of w b command.SetReadOnly i d = asked (op.ReadOnly i true) i
ops_of w b command.SetWriteable i d = asked (op.ReadOnly i false) i

-- the operations of one of these commands, if nothing refuses it
abbrev pub plan_of : World → BookState → Command → List Op
plan_of w b given = about [] (ops_of w b) (coords_command given.name) given
